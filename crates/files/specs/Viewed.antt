-- Why every view over a file is a lawful source: a proof, which stands here since a law may not cite its own crate's `proofs/`.
use Rattle.std.proofs.Common.{arith}
use Rattle.tables.specs.Tables.{Lawful}
use Rattle.files.specs.Entries.{entry_past, entry_fits, zero_is}
use Rattle.files.specs.Layout.{file_base, file_entry}
use Rattle.files.specs.declared.view.View.{View}

pub view_lawful : (v : View) → Lawful (file_base v.file.now) (file_entry v.file.now)
view_lawful v =
    record {
      low = (v.sized 0 (omega arith)).0;
      high = v.high;
      zero = zero_is (file_entry v.file.now 0) v.start;
      past = entry_past v.file.now;
      leaves = v.leaves;
      fits = entry_fits v.file.now;
    }
