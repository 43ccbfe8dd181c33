-- What is taken of the iterator that a source makes.
use Rattle.tabled_compact.proofs.Names.{Bool, CompactSheet, Err, List, Ok, Option, PrintsCompact, Result, Sent, TableError, Window, ℕ}
use Rattle.std.specs.Iterator.{Count}
use Rattle.tabled_base.specs.RowsGiven.{RowsBegin, RowsEnd}
use Rattle.tabled_records.specs.Reading.{MayGive, ReadsTo}
use Rattle.tabled_compact.specs.Printed.{CompactSource}
use Rattle.tabled_compact.specs.Shown.{Came, RowTaking, Taken}

module _ {V S W T : Type 0} {rows_become : V → S → Type 0} {can_row : S → Type 0} {row_steps : S → Option W → S → Type 0} {rows_left : S → Count}
    {cells_become : W → T → Type 0} {can_cell : T → Type 0} {cells_left : T → Count} where
  pub may-give : {rows : V} {it : S} → RowsEnd rows_become can_row row_steps rows_left cells_become can_cell cells_left rows → rows_become rows it
      → MayGive can_row row_steps rows_left cells_become can_cell cells_left it
  may-give {rows} {it} h made = record { can = (h.all it made).0; ends = (h.all it made).1; each = h.each it made }

-- what is printed of other rows
prints-so : {T : Type 0} (from : CompactSource) (comes' : List (List (List ℕ)) → Bool → Type 0) (old new : Sent) (r : Result T TableError)
    → ((rows : List (List (List ℕ))) (whole : Bool) → from.comes rows whole → comes' rows whole) → PrintsCompact from old r new
    → PrintsCompact (record { sheet = from.sheet; window = from.window; comes = comes' }) old r new
prints-so from comes' old new (Ok x) so p = record {
  rows = p.rows;
  whole = p.whole;
  came = so p.rows p.whole p.came;
  taken = p.taken;
  enough = p.enough;
  printable = p.printable;
  sends = p.sends;
}
prints-so from comes' old new (Err e) so p = record {
  rows = p.rows;
  whole = p.whole;
  came = so p.rows p.whole p.came;
  taken = p.taken;
  filled = p.filled;
  ends = p.ends;
}

module _ {V S W T A : Type 0} {rows_become : V → S → Type 0} {row_steps : S → Option W → S → Type 0} {cells_become : W → T → Type 0}
    {cell_steps : T → Option A → T → Type 0} {rows : V} {it : S} {begins : List (List A) → Bool → Type 0}
    (begun : (cells : List (List A)) (whole : Bool) → RowsBegin rows_become row_steps cells_become cell_steps rows cells whole → begins cells whole)
    (made : rows_become rows it) where
  begins-of : {to : S} (cells : List (List A)) (whole : Bool) → ReadsTo row_steps cells_become cell_steps it cells whole to → begins cells whole
  begins-of {to} cells whole r = begun cells whole
      (record {
        lists = r.reads.lists;
        iterator = it;
        made = made;
        reached = r.reached;
        yielded = r.reads.yielded;
        each = r.reads.each;
        ended = λ e. (to, r.ended e);
      })

  -- what is printed of the iterator is printed of the source
  pub prints-source : {R : Type 0} (t : CompactSheet) (w : Window) (text : A → List ℕ) (to : S) (old new : Sent) (r : Result R TableError)
      → PrintsCompact (record {
        sheet = t;
        window = w;
        comes = Taken (record { row_steps = row_steps; cells_become = cells_become; cell_steps = cell_steps; text = text }) it to;
      }) old r new
      → PrintsCompact (record { sheet = t; window = w; comes = Came begins text }) old r new
  prints-source t w text to old new r p =
      let by : RowTaking S W T A = record { row_steps = row_steps; cells_become = cells_become; cell_steps = cell_steps; text = text } in
      prints-so (record { sheet = t; window = w; comes = Taken by it to }) (Came begins text) old new r
      (λ read whole h. (h.0, begins-of h.0 whole h.1, h.2)) p
