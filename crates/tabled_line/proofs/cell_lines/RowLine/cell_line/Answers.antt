use Rattle.tabled_line.proofs.Names.{IsAt, RowSheet, ap, arith, cursor_of, get_or, inl, inr, length, lines_of, nowhere, option_map, refl, slice_get, subst, sym}
use Rattle.tabled_line.proofs.Names.{text_columns, true, ℕ, ◌-◌, ◌<◌, ◌∙◌, ◌≡◌}
use Rattle.std.proofs.lemmas.List.{get_or_default}
use Rattle.tabled_line.specs.RowLines.{IsRowLine}
use Rattle.tabled_line.specs.declared.cell_lines.RowLine.{RowLine}
use Rattle.tabled_line.specs.declared.cursor.Cursor.{Cursor}
use Rattle.tabled_line.proofs.Contents.{columns-one, line-first}
use Rattle.tabled_line.proofs.Spacing.{cell-blank, top-above}
use Rattle.tabled_line.proofs.cell_lines.RowLine.cell_line.Goals as goal

pub returns-then-self-eq1 : goal.returns-then-self-eq1
returns-then-self-eq1 g c =
    let known = c.requires.known in
    let content = c.content-content.result in
    let one = c.if-self-eq1.true in
    let only = c.if-content-ne1.false in
    let first : c.args.self.now.index ≡ 0 = omega (arith, known.index_in, one) in
    record {
      line_is = record {
        text_is = line-first content c.args.self.now.index only first
            ∙ ap (λ t. slice_get (lines_of t) c.args.self.now.index) c.content-content.ensures;
        columns_are = columns-one content only;
        widest_is = content.columns_are ∙ ap text_columns c.content-content.ensures;
      };
      alone = inr (sym known.height_is ∙ one, refl);
    }

-- the cursor of a text that begins in the first line of its cell
at-top : {row : RowSheet} {line : RowLine} {column : ℕ} → IsRowLine row line → line.top ≡ true → column < row.columns.count
    → column < length line.cursors.now → (other : Cursor) → IsAt (row.text column) 0 line.index (get_or line.cursors.now column other)
at-top {row} {line} {column} known top inside listed other =
    subst (IsAt (row.text column) 0 line.index) (get_or_default line.cursors.now column nowhere other listed)
    (subst (λ above. IsAt (row.text column) above line.index (cursor_of line.cursors.now column))
    (top-above (row.style column) row.height (row.text column) (known.top_is top column inside)) (known.cursors_are column listed))

pub returns-in-Some : goal.returns-in-Some
returns-in-Some g c =
    let at = at-top c.requires.known c.if-not-self.false c.requires.inside c.if-column-self.false c.index-self-column.result in
    let zero : c.args.self.now.index - 0 ≡ c.args.self.now.index = omega arith in
    record {
      line_is = record {
        text_is = ap (option_map (λ line. line.0.now)) (sym c.in-Some.is) ∙ at.line_is (omega arith) ∙ ap (slice_get (lines_of ((g.R.Row.sheet c.args.row.now).text c.args.column))) zero;
        columns_are = rw c.in-Some.is at at.columns_are;
        widest_is = at.ahead.widest_is;
      };
      alone = inl (c.requires.known.top_is c.if-not-self.false c.args.column c.requires.inside);
    }

pub returns-in-None : goal.returns-in-None
returns-in-None g c =
    let known = c.requires.known in
    let top = known.top_is c.if-not-self.false c.args.column c.requires.inside in
    let at = at-top known c.if-not-self.false c.requires.inside c.if-column-self.false c.index-self-column.result in
    let zero : c.args.self.now.index - 0 ≡ c.args.self.now.index = omega arith in
    cell-blank (g.R.Row.sheet c.args.row.now) _ c.args.column (omega (arith, known.index_in, known.height_is)) top
    (ap (option_map (λ line. line.0.now)) (sym c.in-None.is) ∙ at.line_is (omega arith) ∙ ap (slice_get (lines_of ((g.R.Row.sheet c.args.row.now).text c.args.column))) zero)
