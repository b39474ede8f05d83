-- Entries of a true table keep the rules that every book keeps.
use Rattle.std.proofs.Common.{◌≡◌, ℕ, ◌≤◌, List, ◌∷◌, length, Some, None, Option, arith}
use Rattle.std.proofs.lemmas.List.{get_or_past}
use Rattle.tables.specs.Rows.{Table}
use Rattle.tables.specs.Rules.{Rules}
use Rattle.tables.specs.Tables.{entry_of}
use Rattle.tables.specs.Tests.{AllClosed, AllStepped}
use Rattle.tables.proofs.Certificate.{complete}
use Rattle.tables.proofs.Tested.{start_from, closed_from, stepped_from}

module _ (m : ℕ) (units : List ℕ) (entries : List (Option ℕ)) (low : 1 ≤ m) (full : length entries ≡ m) (table : Table (m ∷ units) (entry_of entries)) where
  past : (r : ℕ) → m ≤ r → entry_of entries r ≡ None
  past r h = get_or_past entries r None (omega arith)

  kept : Rules m units (entry_of entries)
  kept = complete m units (entry_of entries) low table

  pub table_start : entry_of entries 0 ≡ Some 0
  table_start = start_from m units (entry_of entries) low past kept

  pub table_closed : AllClosed m units (entry_of entries)
  table_closed = closed_from m units (entry_of entries) low past kept

  pub table_stepped : AllStepped m units (entry_of entries)
  table_stepped = stepped_from m units (entry_of entries) low past kept
