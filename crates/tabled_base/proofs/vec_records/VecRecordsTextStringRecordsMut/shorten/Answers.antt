use Rattle.tabled_base.proofs.Names.{ap, arith, subst, sym, take, with_cell, ◌++◌, ◌+◌, ◌∙◌}
use Rattle.std.proofs.Common.{◌*◌}
use Rattle.std.specs.Str.{IsCharBoundary}
use Rattle.tabled_base.proofs.ChangedCells.{cells_after}
use Rattle.tabled_base.proofs.RowLemmas.{cell_read, column_inside}
use Rattle.tabled_base.proofs.StoredRows.{listed, listed-cell, listed-long, listed-place, listed-set, rowed-view, rowed-whole}
use Rattle.tabled_base.proofs.vec_records.VecRecordsTextStringRecordsMut.shorten.Goals as goal
use Rattle.tabled_base.proofs.vec_records.VecRecordsTextStringRecordsMut.shorten.Goals.{in-InList, in-InRows}

pub overflow_mul-at : goal.overflow_mul-at
overflow_mul-at c =
    let l = listed (λ t. t) c.self.inside.stored c.in-InList.cells c.in-InList.columns c.in-InList.field-2 c.args.self.now c.in-InList.is
    c.self.view_is c.self.invariant in
    let p = listed-place c.args.at.row c.args.at.column l c.requires.inside in
    omega (arith, p, c.len-count.ensures, c.len-count.type_inv, c.in-InList.cells.ok.0)

pub overflow_add-at : goal.overflow_add-at
overflow_add-at c =
    let l = listed (λ t. t) c.self.inside.stored c.in-InList.cells c.in-InList.columns c.in-InList.field-2 c.args.self.now c.in-InList.is
    c.self.view_is c.self.invariant in
    let p = listed-place c.args.at.row c.args.at.column l c.requires.inside in
    omega (arith, p, c.len-count.ensures, c.len-count.type_inv, c.in-InList.cells.ok.0)

pub index_mut-requires : goal.index_mut-requires
index_mut-requires c =
    let l = listed (λ t. t) c.self.inside.stored c.in-InList.cells c.in-InList.columns c.in-InList.field-2 c.args.self.now c.in-InList.is
    c.self.view_is c.self.invariant in
    let p = listed-place c.args.at.row c.args.at.column l c.requires.inside in
    omega (arith, p, c.in-InList.cells.ok.0)

pub index_mut-requires-in-InRows : goal.index_mut-requires-in-InRows
index_mut-requires-in-InRows c =
    column_inside (λ t. t) c.in-InRows.rows.items c.args.self.now _ _ c.index_mut-row.result.now
    (rowed-view (λ t. t) c.self.inside.stored c.in-InRows.rows c.args.self.now c.in-InRows.is c.self.view_is)
    (rowed-whole (λ t. t) c.self.inside.stored c.in-InRows.rows c.in-InRows.is c.self.invariant) c.requires.inside c.index_mut-row.ensures.value

pub shorten-requires-clause-boundary : goal.shorten-requires-clause-boundary
shorten-requires-clause-boundary c =
    let l = listed (λ t. t) c.self.inside.stored c.in-InList.cells c.in-InList.columns c.in-InList.field-2 c.args.self.now c.in-InList.is c.self.view_is c.self.invariant in
    let cell = listed-cell c.args.at.row c.args.at.column c.index_mut.result.now l c.requires.inside in
    subst (λ text. IsCharBoundary text c.args.bytes) (sym (c.index_mut.ensures.value ∙ cell)) c.requires.boundary

pub invariant_of-self : goal.invariant_of-self
invariant_of-self c = elim c.match-self.branch [
  | in-InList w ↦ rw w.self-inside-is
      (listed-long (c.args.at.row * w.in-InList.columns + c.args.at.column) w.shorten.new.self
      (listed (λ t. t) c.self.inside.stored w.in-InList.cells w.in-InList.columns w.in-InList.field-2 c.args.self.now w.in-InList.is c.self.view_is c.self.invariant))
  | in-InRows w ↦ rw w.self-inside-is
      ((cells_after w.in-InRows.rows.items _ _ _ w.index_mut-row.result.now w.shorten-in-InRows.new.self
      (rowed-view (λ t. t) c.self.inside.stored w.in-InRows.rows c.args.self.now w.in-InRows.is c.self.view_is)
      (rowed-whole (λ t. t) c.self.inside.stored w.in-InRows.rows w.in-InRows.is c.self.invariant) c.requires.inside w.index_mut-row.ensures.value).0)
]

pub returns : goal.returns
returns c = elim c.match-self.branch [
  | in-InList w ↦ rw w.self-inside-is
      (listed-set c.args.at.row c.args.at.column w.shorten.new.self
      (listed (λ t. t) c.self.inside.stored w.in-InList.cells w.in-InList.columns w.in-InList.field-2 c.args.self.now w.in-InList.is c.self.view_is c.self.invariant) c.requires.inside
      ∙ ap (with_cell c.args.self.now c.args.at.row c.args.at.column)
      (w.shorten.ensures ∙ ap (λ text. take c.args.bytes text ++ c.args.ending.now) (w.index_mut.ensures.value
      ∙ listed-cell c.args.at.row c.args.at.column w.index_mut.result.now
      (listed (λ t. t) c.self.inside.stored w.in-InList.cells w.in-InList.columns w.in-InList.field-2 c.args.self.now w.in-InList.is c.self.view_is c.self.invariant) c.requires.inside)))
  | in-InRows w ↦ rw w.self-inside-is
      ((cells_after w.in-InRows.rows.items _ _ _ w.index_mut-row.result.now w.shorten-in-InRows.new.self
      (rowed-view (λ t. t) c.self.inside.stored w.in-InRows.rows c.args.self.now w.in-InRows.is c.self.view_is)
      (rowed-whole (λ t. t) c.self.inside.stored w.in-InRows.rows w.in-InRows.is c.self.invariant) c.requires.inside w.index_mut-row.ensures.value).1
      ∙ ap (with_cell c.args.self.now c.args.at.row c.args.at.column)
      (w.shorten-in-InRows.ensures ∙ ap (λ text. take c.args.bytes text ++ c.args.ending.now)
      (cell_read (λ t. t) w.in-InRows.rows.items _ _ _ w.index_mut-row.result.now w.index_mut-in-InRows.result.now
      (rowed-view (λ t. t) c.self.inside.stored w.in-InRows.rows c.args.self.now w.in-InRows.is c.self.view_is)
      (rowed-whole (λ t. t) c.self.inside.stored w.in-InRows.rows w.in-InRows.is c.self.invariant) c.requires.inside
      w.index_mut-row.ensures.value w.index_mut-in-InRows.ensures.value)))
]
