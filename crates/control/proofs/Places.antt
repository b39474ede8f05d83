-- The places of the refusals of a file are small.
use Rattle.std.proofs.Common.{ℕ, zero, suc, ◌<◌, ◌≤◌, List, length, refl, arith}
use Rattle.files.specs.Faults.{Fault, broken, cut, short, long}
use Rattle.files.specs.Judged.{Rejects, TrueFile, malformed, untrue}
use Rattle.files.proofs.Places.{row_length}
use Rattle.files.specs.Layout.{Kept, field_start, fields, file_base, file_row, file_units, proper_length}
use Rattle.tables.specs.declared.refusals.Refusal.{Refusal}
use Rattle.control.specs.Packing.{Short}

module _ (bytes : List ℕ) where
  -- the fields of the head are not far, and once they are kept there are few units
  start_low : (field : ℕ) → field < fields bytes → Kept bytes field → field_start (suc field) ≤ 40
  start_low zero h kept = omega arith
  start_low (suc zero) h kept = omega arith
  start_low (suc (suc zero)) h kept = omega arith
  start_low (suc (suc (suc zero))) h kept = omega arith
  start_low (suc (suc (suc (suc i)))) h kept = omega (arith, h, (kept 2 (omega arith)).1.1)

  field_low : (field : ℕ) → field < fields bytes → Kept bytes field → field_start field ≤ 40
  field_low zero h kept = omega arith
  field_low (suc zero) h kept = omega arith
  field_low (suc (suc zero)) h kept = omega arith
  field_low (suc (suc (suc zero))) h kept = omega arith
  field_low (suc (suc (suc (suc i)))) h kept = omega (arith, h, (kept 2 (omega arith)).1.1)

  module _ (kept : Kept bytes (fields bytes)) where
    units_some : 1 ≤ file_units bytes
    units_some = (kept 2 (omega arith)).1.0

    units_few : file_units bytes ≤ 16
    units_few = (kept 2 (omega arith)).1.1

    base_low : file_base bytes ≤ 4096
    base_low = (kept 3 (omega (arith, units_some))).1.1

    proper_low : proper_length bytes ≤ 20000
    proper_low = omega (arith, units_few, base_low)

  fault_low : (offset : ℕ) → Fault bytes offset → offset < 1073741824
  fault_low offset (broken field h kept ends breaks e) = omega (arith, e, field_low field h kept)
  fault_low offset (cut field h kept less e) = omega (arith, e, less, start_low field h kept)
  fault_low offset (short kept h e) = omega (arith, e, h, proper_low kept)
  fault_low offset (long kept h e) = omega (arith, e, proper_low kept)

  pub rejects_short : (reason : Refusal) → Rejects bytes reason → Short 1073741824 reason
  rejects_short reason (malformed offset fault) =
      record { number = 11; place = offset; numbered = refl; placed = refl; some = omega arith; few = omega arith; below = fault_low offset fault }
  rejects_short reason (untrue r formed first) =
      record { number = 12; place = r; numbered = refl; placed = refl; some = omega arith; few = omega arith; below = omega (arith, first.below, base_low formed.kept) }

  -- a true file lists sixteen units at most
  pub row_few : TrueFile bytes → length (file_row bytes) ≤ 16
  row_few true = omega (arith, row_length bytes (units_some true.formed.kept), units_few true.formed.kept)
