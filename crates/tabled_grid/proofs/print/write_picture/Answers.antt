use Rattle.tabled_grid.proofs.Names.{LineSends, List, Sheet, ap, arith, each-more, false, fill, filled_picture, flat_map, frame, length}
use Rattle.tabled_grid.proofs.Names.{range_with_len, refl, replicate, row_lines, row_of, row_part, rule, subst, sym, ℕ, ◌++◌, ◌∙◌, ◌≡◌}
use Rattle.std.proofs.Common.{append-nil, append_assoc}
use Rattle.tabled_line.proofs.Each.{each-rest}
use Rattle.tabled_line.proofs.Leading.{lines-further, lines-finished, lines-stopped, lines-stopped-first, lines-text}
use Rattle.tabled_grid.proofs.print.write_picture.Goals as goal

-- all lines, from a row on whose horizontal line comes after those before it
from_rule : {A : Type 0} (top all before rule row rest below : List A) → all ≡ before ++ ((rule ++ row) ++ rest)
    → top ++ (all ++ below) ≡ (top ++ before) ++ (rule ++ (row ++ (rest ++ below)))
from_rule top all before rule row rest below parts =
    ap (λ u. top ++ (u ++ below)) (parts ∙ ap (λ u. before ++ u) (append_assoc rule row rest))
    ∙ ap (λ u. top ++ u) (append_assoc before (rule ++ (row ++ rest)) below
    ∙ ap (λ u. before ++ u) (append_assoc rule (row ++ rest) below ∙ ap (λ u. rule ++ u) (append_assoc row rest below)))
    ∙ sym (append_assoc top before (rule ++ (row ++ (rest ++ below))))

from_row : {A : Type 0} (top all before rule row rest below : List A) → all ≡ before ++ ((rule ++ row) ++ rest)
    → top ++ (all ++ below) ≡ ((top ++ before) ++ rule) ++ (row ++ (rest ++ below))
from_row top all before rule row rest below parts =
    from_rule top all before rule row rest below parts ∙ sym (append_assoc (top ++ before) rule (row ++ (rest ++ below)))

with_row : {A : Type 0} (top all before rule row : List A) → all ≡ before ++ (rule ++ row) → top ++ all ≡ ((top ++ before) ++ rule) ++ row
with_row top all before rule row parts =
    ap (λ u. top ++ u) parts ∙ sym (append_assoc top before (rule ++ row)) ∙ sym (append_assoc (top ++ before) rule row)

pub returns-in_err-write_margin : goal.returns-in_err-write_margin
unfolding filled_picture
returns-in_err-write_margin g c =
    let framed = c.grid.invariant.0 ∙ ap (λ (t : Sheet). frame t.config) c.grid.view_is in
    lines-text _ _ c.write_margin.new.self.begun _ _
    (lines-stopped-first _ _ _ _ _ (rw (framed, c.new-lines.ensures.begun) at c.in_err-write_margin.ensures.printed) c.from_residual.ensures.1 refl)

pub rows-init : goal.rows-init
rows-init g c =
    let framed = c.grid.invariant.0 ∙ ap (λ (t : Sheet). frame t.config) c.grid.view_is in
    let margin = (frame c.args.grid.now.config).margin in
    let P : List (List ℕ) → Type 0 =
    λ lines. LineSends (g.S.TextSink.sent c.args.sink.now) false (g.S.TextSink.sent c.write_margin.new.sink) c.write_margin.new.self.begun lines in
    record {
      printed = subst P (sym (append-nil (replicate margin.top.size (fill margin.top.fill c.args.whole))))
          (rw (framed, c.new-lines.ensures.begun) at c.in_ok-write_margin.ensures.printed);
      same = ap (λ columns. columns.grid.now) (c.in_ok-write_margin.ensures.same ∙ c.new-lines.ensures.columns);
      kept = c.in_ok-write_margin.ensures.kept;
    }

pub returns-in_err-write_rule : goal.returns-in_err-write_rule
unfolding filled_picture row_part rule
returns-in_err-write_rule g c =
    let t = c.args.grid.now in
    let row = c.rows.row in
    let margin = (frame t.config).margin in
    let counted = c.count_rows-row-end.ensures ∙ ap (λ (s : Sheet). length s.cells) c.grid.view_is in
    let within = rw counted at c.rows-test.true in
    lines-text _ _ c.write_rule.new.self.begun _ _
    (lines-stopped _ _ _ _ _ c.rows.invariant.printed
    (rw (c.rows.invariant.same, c.rule_at.ensures) at c.in_err-write_rule.ensures.printed) c.from_residual-in_err-write_rule.ensures.1
    (from_rule (replicate margin.top.size (fill margin.top.fill c.args.whole)) _ (flat_map (row_part t) (range_with_len 0 row)) (rule t row) (row_lines (row_of t row)) _ _
    (each-rest (row_part t) row (length t.cells) within)))

pub returns-in_err-write_row : goal.returns-in_err-write_row
unfolding filled_picture row_part rule
returns-in_err-write_row g c =
    let t = c.args.grid.now in
    let row = c.rows.row in
    let margin = (frame t.config).margin in
    let counted = c.count_rows-row-end.ensures ∙ ap (λ (s : Sheet). length s.cells) c.grid.view_is in
    let within = rw counted at c.rows-test.true in
    lines-text _ _ c.write_row.new.self.begun _ _
    (lines-stopped _ _ _ _ _
    (lines-further c.rows.invariant.printed (rw (c.rows.invariant.same, c.rule_at.ensures) at c.in_ok-write_rule.ensures.printed) refl)
    c.in_err-write_row.ensures.printed c.from_residual-in_err-write_row.ensures.1
    (from_row (replicate margin.top.size (fill margin.top.fill c.args.whole)) _ (flat_map (row_part t) (range_with_len 0 row)) (rule t row) (row_lines (row_of t row)) _ _
    (each-rest (row_part t) row (length t.cells) within)))

pub rows-preserved : goal.rows-preserved
unfolding row_part rule
rows-preserved g c =
    let t = c.args.grid.now in
    let row = c.rows.row in
    record {
      printed = lines-further
          (lines-further c.rows.invariant.printed (rw (c.rows.invariant.same, c.rule_at.ensures) at c.in_ok-write_rule.ensures.printed) refl)
          c.in_ok-write_row.ensures.printed
          (with_row _ _ (flat_map (row_part t) (range_with_len 0 row)) (rule t row) (row_lines (row_of t row)) (each-more (row_part t) row));
      same = ap (λ columns. columns.grid.now) (c.in_ok-write_row.ensures.same ∙ c.in_ok-write_rule.ensures.same) ∙ c.rows.invariant.same;
      kept = c.in_ok-write_row.ensures.kept;
    }

pub returns-in_err-write_rule-2 : goal.returns-in_err-write_rule-2
unfolding filled_picture rule
returns-in_err-write_rule-2 g c =
    let t = c.args.grid.now in
    let margin = (frame t.config).margin in
    let counted = c.count_rows-row-end.ensures ∙ ap (λ (s : Sheet). length s.cells) c.grid.view_is in
    let all : c.rows.row ≡ length t.cells = omega (arith, counted, c.rows-test.false, c.rows.invariant) in
    let last = c.count_rows.ensures ∙ ap (λ (s : Sheet). length s.cells) c.grid.view_is in
    lines-text _ _ c.write_rule-2.new.self.begun _ _
    (lines-stopped _ (replicate margin.bottom.size (fill margin.bottom.fill c.args.whole)) _ _ _ (rw all at c.rows.invariant.printed)
    (rw (c.rows.invariant.same, c.rule_at-2.ensures, last) at c.in_err-write_rule-2.ensures.printed) c.from_residual-in_err-write_rule-2.ensures.1
    (sym (append_assoc (replicate margin.top.size (fill margin.top.fill c.args.whole)) (flat_map (row_part t) (range_with_len 0 (length t.cells))) _)))

pub returns : goal.returns
unfolding filled_picture rule
returns g c =
    let t = c.args.grid.now in
    let margin = (frame t.config).margin in
    let framed = c.grid.invariant.0 ∙ ap (λ (s : Sheet). frame s.config) c.grid.view_is in
    let counted = c.count_rows-row-end.ensures ∙ ap (λ (s : Sheet). length s.cells) c.grid.view_is in
    let all : c.rows.row ≡ length t.cells = omega (arith, counted, c.rows-test.false, c.rows.invariant) in
    let last = c.count_rows.ensures ∙ ap (λ (s : Sheet). length s.cells) c.grid.view_is in
    let top = replicate margin.top.size (fill margin.top.fill c.args.whole) in
    let rows = flat_map (row_part t) (range_with_len 0 (length t.cells)) in
    lines-text _ _ c.write_margin-2.new.self.begun _ _
    (lines-finished _ _ _ _ _
    (lines-further (rw all at c.rows.invariant.printed) (rw (c.rows.invariant.same, c.rule_at-2.ensures, last) at c.in_ok-write_rule-2.ensures.printed) refl)
    (rw framed at c.write_margin-2.ensures.printed)
    (with_row top _ rows (rule t (length t.cells)) _ refl))
