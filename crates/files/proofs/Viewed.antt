-- What every view shows: the true table of the row that its file lists.
use Rattle.std.proofs.Common.{ℕ, suc, List, arith}
use Rattle.tables.specs.Rows.{Row, Table}
use Rattle.tables.proofs.Tested.{table_from}
use Rattle.files.specs.Entries.{entry_past, zero_is}
use Rattle.files.specs.Layout.{file_base, file_entry, file_others, file_row}
use Rattle.files.specs.declared.view.View.{View}

module _ (v : View) where
  pub view_row : Row (file_row v.file.now)
  view_row =
      record {
        some = omega arith;
        few = v.few;
        base = v.high;
        sizes = v.sized;
        rises = λ i j one less inside. v.rises i j (one, less, inside);
        apart = v.apart;
      }

  pub view_table : Table (file_row v.file.now) (file_entry v.file.now)
  view_table =
      let b : List ℕ = v.file.now in
      table_from (file_base b) (file_others b) (file_entry b) (v.sized 0 (omega arith)).0 (zero_is (file_entry b 0) v.start) v.leaves v.closed v.stepped
      (λ j h. (v.sized (suc j) (omega arith)).0) (entry_past b)
