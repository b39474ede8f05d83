use Rattle.std.proofs.Common.{ℕ, ◌≤◌, List, ap}
use Rattle.tables.specs.Rules.{Rules}
use Rattle.tables.proofs.Tested.{start_from, leaves_from, closed_from, stepped_from}
use Rattle.files.specs.Entries.{entry_past, is_zero}
use Rattle.files.specs.Layout.{file_base, file_entry, file_others}
use Rattle.files.proofs.Formed.{formed_low, formed_some}
use Rattle.files.proofs.Verdict.{true_rules}
use Rattle.files.proofs.view.View.new.Goals as goal

pub invariant_of-result : goal.invariant_of-result
invariant_of-result c =
    let b : List ℕ = c.args.file.now in
    let m : ℕ = file_base b in
    let row = c.requires.ordered in
    let low : 1 ≤ m = formed_low b c.requires.judged.formed in
    let rules : Rules m (file_others b) (file_entry b) = true_rules b c.requires.judged in
    record {
      some = formed_some b c.requires.judged.formed;
      few = row.few;
      high = row.base;
      sized = row.sizes;
      rises = λ i j h. row.rises i j h.0 h.1 h.2;
      apart = row.apart;
      start = ap is_zero (start_from m (file_others b) (file_entry b) low (entry_past b) rules);
      leaves = leaves_from m (file_others b) (file_entry b) low (entry_past b) rules;
      closed = closed_from m (file_others b) (file_entry b) low (entry_past b) rules;
      stepped = stepped_from m (file_others b) (file_entry b) low (entry_past b) rules;
    }
