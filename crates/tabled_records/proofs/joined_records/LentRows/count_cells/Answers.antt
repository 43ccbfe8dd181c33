use Rattle.tabled_records.proofs.Names.{AreRanges, ap, arith, cell_at, columns, length, subst, sym, texts_from, ℕ, ◌<◌, ◌∙◌, ◌≤◌}
use Rattle.tabled_text.proofs.Bridge.{greatest-ge}
use Rattle.tabled_records.proofs.Joining.{length-texts}
use Rattle.tabled_records.proofs.Rows.{cell-behind, length-rows, rows-columns}
use Rattle.tabled_records.proofs.joined_records.LentRows.count_cells.Goals as goal

pub returns-clause-within : goal.returns-clause-within
returns-clause-within c =
    let r = c.self.inside in
    let texts = texts_from 1 r.text.now 0 r.cells in
    let there = subst (λ n. AreRanges n r.rows) (sym (length-texts 1 r.text.now 0 r.cells)) c.self.invariant.ranges in
    let row_in : c.args.row < length r.rows = omega (arith, c.requires, ap length c.self.view_is, length-rows texts r.rows) in
    omega (
      arith,
      greatest-ge (λ (range : ℕ × ℕ). range.1) r.rows c.args.row c.at.result row_in,
      ap (λ range. range.1) c.at.ensures,
      rows-columns texts r.rows there,
      ap columns c.self.view_is,
    )

pub returns-clause-rest : goal.returns-clause-rest
returns-clause-rest c = λ column behind.
    let r = c.self.inside in
    let texts = texts_from 1 r.text.now 0 r.cells in
    let there = subst (λ n. AreRanges n r.rows) (sym (length-texts 1 r.text.now 0 r.cells)) c.self.invariant.ranges in
    let row_in : c.args.row < length r.rows = omega (arith, c.requires, ap length c.self.view_is, length-rows texts r.rows) in
    ap (λ rows. cell_at rows c.args.row column) (sym c.self.view_is)
    ∙ cell-behind texts r.rows c.args.row column c.at.result there row_in (subst (λ range. range.1 ≤ column) c.at.ensures behind)
