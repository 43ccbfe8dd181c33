-- A proved law that implementations of `IntoRecords` cite.
use Rattle.std.specs.Prelude.{List, true, refl}
use Rattle.std.specs.declared.option.Option.{Option}
use Rattle.tabled_base.specs.RowsGiven.{RowsBegin, RowsGiven}

-- if the rows that come first are all rows, they are what the source yields
pub whole_rows : {V S W T A : Type 0} {rows_become : V → S → Type 0} {row_steps : S → Option W → S → Type 0}
    {cells_become : W → T → Type 0} {cell_steps : T → Option A → T → Type 0} {rows : V} {cells : List (List A)}
    → RowsBegin rows_become row_steps cells_become cell_steps rows cells true
    → RowsGiven rows_become row_steps cells_become cell_steps rows cells
whole_rows b =
    record {
      lists = b.lists;
      all = record { iterator = b.iterator; made = b.made; drained = ((b.ended refl).0, ((b.reached, b.yielded, (b.ended refl).1))) };
      each = b.each;
    }
