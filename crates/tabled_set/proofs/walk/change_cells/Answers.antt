use Rattle.tabled_set.proofs.Names.{AreChangedBefore, Bool, List, NeedNoMemory, WalkOrder, arith, covers, err_from_is_err_and, inl, inr}
use Rattle.tabled_set.proofs.Names.{for_content_size, if_taken, needs, subst, ℕ, ◌≡◌, ◌⊎◌}
use Rattle.tabled_set.proofs.ChangingCells.{AreChanged-both, all_of, stops-later}
use Rattle.tabled_set.specs.CellChanges.{line_of, place_of}
use Rattle.tabled_set.proofs.walk.change_cells.Goals as goal

-- a walk that needs no memory stops in no order
in_order : (wants : ℕ → ℕ → List ℕ → Type 0) (change : ℕ → ℕ → List ℕ → List ℕ → Type 0) (chosen : ℕ → ℕ → Bool) (walked order : WalkOrder) (old new : List (List (List ℕ)))
    → (walked ≡ order) ⊎ NeedNoMemory chosen wants old → AreChangedBefore walked chosen wants change old new → AreChangedBefore order chosen wants change old new
in_order wants change chosen walked order old new (inl same) s = subst (λ (o : WalkOrder). AreChangedBefore o chosen wants change old new) same s
in_order wants change chosen walked order old new (inr none) s = absurd (none s.row s.column s.inside s.stopped s.wanting)

pub returns-in_err-change_line-clause-err : goal.returns-in_err-change_line-clause-err
returns-in_err-change_line-clause-err g c =
    let by = c.args.by.now in
    let bands = c.lines_of_entity.result in
    let sizes = g.M.ContentSizes.content_size_at by.content_sizes.now in
    let p = err_from_is_err_and c.from_residual.result c.from_residual.ensures.1 in
    rw p.1
    (in_order (needs by.cell_filter (g.T.TextTransform.shortens by.transform.now) sizes)
    (for_content_size (if_taken by.cell_filter (g.T.TextTransform.makes by.transform.now)) sizes) (covers c.args.entity)
    c.order_for-walked.result c.args.order (g.R.ExactRecords.cells c.args.records.now) _ c.order_for-walked.ensures
    (stops-later c.order_for-walked.result bands.1 (covers c.args.entity) bands.0 c.lines.line c.lines_of_entity.ensures.cells (omega arith) (omega arith) c.lines.invariant c.in_err-change_line.ensures.err))

pub lines-preserved : goal.lines-preserved
lines-preserved g c =
    let bands = c.lines_of_entity.result in
    let order = c.order_for-walked.result in
    AreChanged-both c.lines.invariant c.in_ok-change_line.ensures.ok
    (λ r k inside. all_of (covers c.args.entity r k) bands.0 bands.1 c.lines.line (line_of order r k) (place_of order r k)
    (c.lines_of_entity.ensures.cells r k inside) (omega arith) (omega arith))
