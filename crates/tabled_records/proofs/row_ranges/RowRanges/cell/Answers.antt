use Rattle.tabled_records.proofs.Names.{AreRanges, [], ap, arith, get_or, length, subst, sym, text_columns}
use Rattle.tabled_records.proofs.Names.{texts_from, ◌+◌, ◌<◌, ◌∙◌, ◌≤◌}
use Rattle.tabled_records.proofs.Joining.{length-texts}
use Rattle.tabled_records.proofs.Rows.{cell-behind, cell-there, length-rows}
use Rattle.tabled_records.proofs.row_ranges.RowRanges.cell.Goals.{After-len-count}
use Rattle.tabled_records.proofs.row_ranges.RowRanges.cell.Goals as goal

pub at-start-requires : goal.at-start-requires
at-start-requires c =
    let texts = texts_from c.args.gap c.args.whole.now 0 c.args.ends.now in
    let row_in = c.requires.inside.row_in in
    omega (arith, row_in, length-rows texts c.args.self.now)

pub returns-then-at-count : goal.returns-then-at-count
returns-then-at-count c =
    let at = c.args.at in
    let ranges = c.args.self.now in
    let texts = texts_from c.args.gap c.args.whole.now 0 c.args.ends.now in
    let row_in = c.requires.inside.row_in in
    cell-behind texts ranges at.row at.column c.at-start.result
    (subst (λ n. AreRanges n ranges) (sym (length-texts c.args.gap c.args.whole.now 0 c.args.ends.now)) c.requires.ranges)
    (omega (arith, row_in, length-rows texts ranges)) (subst (λ r. r.1 ≤ at.column) c.at-start.ensures c.if-at-count.true)

-- the index is one of a text
place_in : (c : After-len-count) → c.at-start.result.0 + c.args.at.column < length c.args.ends.now
place_in c =
    let at = c.args.at in
    let ranges = c.args.self.now in
    let row_in = c.requires.inside.row_in in
    let inside = c.requires.ranges at.row c.at-start.result
    (omega (arith, row_in, length-rows (texts_from c.args.gap c.args.whole.now 0 c.args.ends.now) ranges)) in
    omega (arith, inside, ap (λ r. r.0) c.at-start.ensures, ap (λ r. r.1) c.at-start.ensures, c.if-at-count.false)

pub overflow_add-place : goal.overflow_add-place
overflow_add-place c = omega (arith, place_in (goal.at.overflow_add-place c).After-len-count, c.len-count.ensures)

pub text_at-columns-requires-clause-inside : goal.text_at-columns-requires-clause-inside
text_at-columns-requires-clause-inside c = place_in (goal.at.text_at-columns-requires-clause-inside c).After-len-count

pub returns : goal.returns
returns c =
    let at = c.args.at in
    let gap = c.args.gap in
    let whole = c.args.whole.now in
    let ends = c.args.ends.now in
    let ranges = c.args.self.now in
    let texts = texts_from gap whole 0 ends in
    let size = length-texts gap whole 0 ends in
    let row_in = c.requires.inside.row_in in
    let found = ap (λ r. get_or texts (r.0 + at.column) []) c.at-start.ensures
    ∙ cell-there texts ranges at.row at.column c.at-start.result (subst (λ n. AreRanges n ranges) (sym size) c.requires.ranges)
    (omega (arith, row_in, length-rows texts ranges)) (subst (λ r. at.column < r.1) c.at-start.ensures c.if-at-count.false) in
    let same = c.text_at-columns.ensures.text ∙ found in
    record {
      there = omega (arith, place_in (goal.at.returns c).After-len-count, size);
      found = found;
      same = same;
      wide = c.text_at-columns.ensures.columns ∙ ap text_columns same;
    }
