use Rattle.tabled_base.proofs.Names.{ap, arith, with_cell, ◌+◌, ◌∙◌}
use Rattle.std.proofs.Common.{◌*◌}
use Rattle.tabled_base.proofs.ChangedCells.{cells_after}
use Rattle.tabled_base.proofs.RowLemmas.{column_inside}
use Rattle.tabled_base.proofs.StoredRows.{listed, listed-long, listed-place, listed-set, rowed-view, rowed-whole}
use Rattle.tabled_base.proofs.vec_records.VecRecordsTextStringRecordsMut.set.Goals as goal
use Rattle.tabled_base.proofs.vec_records.VecRecordsTextStringRecordsMut.set.Goals.{in-InList+in-Other-1, in-InList+in-Short-1, in-InRows+in-Other-1, in-InRows+in-Short-1}

pub overflow_mul-at : goal.overflow_mul-at
overflow_mul-at c =
    let l = listed (λ t. t) c.self.inside.stored c.in-InList.cells c.in-InList.columns c.in-InList.field-2 c.args.self.now c.in-InList.is
    c.self.view_is c.self.invariant in
    let p = listed-place c.args.at.row c.args.at.column l c.requires in
    omega (arith, p, c.len-count.ensures, c.len-count.type_inv, c.in-InList.cells.ok.0)

pub overflow_add-at : goal.overflow_add-at
overflow_add-at c =
    let l = listed (λ t. t) c.self.inside.stored c.in-InList.cells c.in-InList.columns c.in-InList.field-2 c.args.self.now c.in-InList.is
    c.self.view_is c.self.invariant in
    let p = listed-place c.args.at.row c.args.at.column l c.requires in
    omega (arith, p, c.len-count.ensures, c.len-count.type_inv, c.in-InList.cells.ok.0)

pub index_mut-requires : goal.index_mut-requires
index_mut-requires c =
    let l = listed (λ t. t) c.self.inside.stored c.in-InList.cells c.in-InList.columns c.in-InList.field-2 c.args.self.now c.in-InList.is
    c.self.view_is c.self.invariant in
    let p = listed-place c.args.at.row c.args.at.column l c.requires in
    omega (arith, p, c.in-InList.cells.ok.0)

pub index_mut-requires-in-InRows : goal.index_mut-requires-in-InRows
index_mut-requires-in-InRows c =
    column_inside (λ t. t) c.in-InRows.rows.items c.args.self.now _ _ c.index_mut-row.result.now
    (rowed-view (λ t. t) c.self.inside.stored c.in-InRows.rows c.args.self.now c.in-InRows.is c.self.view_is)
    (rowed-whole (λ t. t) c.self.inside.stored c.in-InRows.rows c.in-InRows.is c.self.invariant) c.requires c.index_mut-row.ensures.value

pub invariant_of-self : goal.invariant_of-self
invariant_of-self c = elim c.match-self.branch [
  | in-InList+in-Other-1 w ↦ rw w.self-inside-is
      (listed-long (c.args.at.row * w.in-InList.columns + c.args.at.column) c.new-cell.result
      (listed (λ t. t) c.self.inside.stored w.in-InList.cells w.in-InList.columns w.in-InList.field-2 c.args.self.now w.in-InList.is c.self.view_is c.self.invariant))
  | in-InList+in-Short-1 w ↦ rw w.self-inside-is
      (listed-long (c.args.at.row * w.in-InList.columns + c.args.at.column) c.new-cell.result
      (listed (λ t. t) c.self.inside.stored w.in-InList.cells w.in-InList.columns w.in-InList.field-2 c.args.self.now w.in-InList.is c.self.view_is c.self.invariant))
  | in-InRows+in-Other-1 w ↦ rw w.self-inside-is
      ((cells_after w.in-InRows.rows.items _ _ _ w.index_mut-row.result.now c.new-cell.result
      (rowed-view (λ t. t) c.self.inside.stored w.in-InRows.rows c.args.self.now w.in-InRows.is c.self.view_is)
      (rowed-whole (λ t. t) c.self.inside.stored w.in-InRows.rows w.in-InRows.is c.self.invariant) c.requires w.index_mut-row.ensures.value).0)
  | in-InRows+in-Short-1 w ↦ rw w.self-inside-is
      ((cells_after w.in-InRows.rows.items _ _ _ w.index_mut-row.result.now c.new-cell.result
      (rowed-view (λ t. t) c.self.inside.stored w.in-InRows.rows c.args.self.now w.in-InRows.is c.self.view_is)
      (rowed-whole (λ t. t) c.self.inside.stored w.in-InRows.rows w.in-InRows.is c.self.invariant) c.requires w.index_mut-row.ensures.value).0)
]

pub returns-clause-ok : goal.returns-clause-ok
returns-clause-ok c = elim c.match-self.branch [
  | in-InList+in-Other-1 w ↦ rw w.self-inside-is
      (listed-set c.args.at.row c.args.at.column c.new-cell.result
      (listed (λ t. t) c.self.inside.stored w.in-InList.cells w.in-InList.columns w.in-InList.field-2 c.args.self.now w.in-InList.is c.self.view_is c.self.invariant) c.requires
      ∙ ap (with_cell c.args.self.now c.args.at.row c.args.at.column) c.new-cell.ensures)
  | in-InList+in-Short-1 w ↦ rw w.self-inside-is
      (listed-set c.args.at.row c.args.at.column c.new-cell.result
      (listed (λ t. t) c.self.inside.stored w.in-InList.cells w.in-InList.columns w.in-InList.field-2 c.args.self.now w.in-InList.is c.self.view_is c.self.invariant) c.requires
      ∙ ap (with_cell c.args.self.now c.args.at.row c.args.at.column) c.new-cell.ensures)
  | in-InRows+in-Other-1 w ↦ rw w.self-inside-is
      ((cells_after w.in-InRows.rows.items _ _ _ w.index_mut-row.result.now c.new-cell.result
      (rowed-view (λ t. t) c.self.inside.stored w.in-InRows.rows c.args.self.now w.in-InRows.is c.self.view_is)
      (rowed-whole (λ t. t) c.self.inside.stored w.in-InRows.rows w.in-InRows.is c.self.invariant) c.requires w.index_mut-row.ensures.value).1
      ∙ ap (with_cell c.args.self.now c.args.at.row c.args.at.column) c.new-cell.ensures)
  | in-InRows+in-Short-1 w ↦ rw w.self-inside-is
      ((cells_after w.in-InRows.rows.items _ _ _ w.index_mut-row.result.now c.new-cell.result
      (rowed-view (λ t. t) c.self.inside.stored w.in-InRows.rows c.args.self.now w.in-InRows.is c.self.view_is)
      (rowed-whole (λ t. t) c.self.inside.stored w.in-InRows.rows w.in-InRows.is c.self.invariant) c.requires w.index_mut-row.ensures.value).1
      ∙ ap (with_cell c.args.self.now c.args.at.row c.args.at.column) c.new-cell.ensures)
]
