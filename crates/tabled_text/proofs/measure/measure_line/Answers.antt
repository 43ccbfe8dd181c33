use Rattle.tabled_text.proofs.Names.{List, ap, is_in_range, line_columns, lines_in, list_all, map, sym, take, true, ℕ, ◌∙◌, ◌∷◌, ◌≡◌}
use Rattle.tabled_text.proofs.PlainLines.{plain_line-printable}
use Rattle.tabled_text.proofs.RunLemmas.{run-front}
use Rattle.tabled_text.proofs.Searched.{lines-split}
use Rattle.tabled_text.proofs.measure.measure_line.Goals as goal

pub returns-then-line-run-clause-columns : goal.returns-then-line-run-clause-columns
returns-then-line-run-clause-columns c =
    let line : List ℕ = c.split_at_byte.result.0.now in
    let after = c.split_at_byte.result.1 in
    let s = c.split_at_byte.ensures in
    let front : line ≡ take c.args.run c.args.text.now = s.front_is ∙ ap (λ n. take n c.args.text.now) c.if-line-run.true in
    let all : list_all (is_in_range 0x20 0x7E) line ≡ true = ap (list_all (is_in_range 0x20 0x7E)) front
    ∙ run-front (is_in_range 0x20 0x7E) c.args.text.now c.args.run c.requires.end c.requires.passed in
    ap (map line_columns) (lines-split c.args.text.now line after s)
    ∙ ap (λ n. n ∷ map line_columns (lines_in after)) ((plain_line-printable line all).columns ∙ c.if-line-run.true)

pub returns-clause-columns : goal.returns-clause-columns
returns-clause-columns c =
    let after = c.split_at_byte.result.1 in
    ap (map line_columns) (lines-split c.args.text.now c.split_at_byte.result.0.now after c.split_at_byte.ensures)
    ∙ ap (λ n. n ∷ map line_columns (lines_in after)) (sym c.mixed_width.ensures.value)
