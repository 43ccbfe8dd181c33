use Rattle.tabled_records.proofs.Names.{IsUtf8, List, None, Option, Some, [], ap, append-nil, arith, cell_at, get_or, length, length-take, lines_of, refl, subst, sym, take, text_columns}
use Rattle.tabled_records.proofs.Names.{ℕ, ◌<◌, ◌==◌, ◌∙◌, ◌≡◌}
use Rattle.std.proofs.lemmas.Bool.{MatchBool-at_false, MatchBool-at_true, eq-eqb, ne_eqb}
use Rattle.std.specs.Bool.{MatchBool}
use Rattle.tabled_records.proofs.CutLent.{cell-cut, cuts-narrow, cuts-nothing, cuts-one_line, front-bytes, cuts-printable, cuts-wide, inside-cut, known-cut, printable-boundary}
use Rattle.tabled_records.proofs.CutLent.{printable-columns, printable-cut, printable-lines}
use Rattle.tabled_records.proofs.Joining.{told_empty}
use Rattle.tabled_records.proofs.ToldTexts.{right-in_place, right-made, told-right}
use Rattle.tabled_records.specs.CutLentRows.{ArePrintable, IsCutKnown, cut_cell, cuts, tells_cut}
use Rattle.tabled_base.specs.Printable.{IsPrintableAscii}
use Rattle.tabled_records.specs.NarrowedTexts.{IsTold}
use Rattle.tabled_text.specs.Cut.{IsCutAt}
use Rattle.tabled_records.proofs.cut_lent_rows.CutLentRowsPeekableRecords.get_measured.Goals.{After-width_at, In-Some-told}
use Rattle.tabled_records.proofs.cut_lent_rows.CutLentRowsPeekableRecords.get_measured.Goals as goal

pub line-columns-requires : goal.line-columns-requires
line-columns-requires c = inside-cut c.self.inside.widths.items c.self.inside.rows.now c.self.view_is c.requires

-- the cell is the text there, cut to the width of its column
cell : (c : After-width_at) (width : Option ℕ) → c.width_at.result ≡ width
    → cut_cell width c.line-columns.result.0.now ≡ cell_at c.args.self.now c.args.at.row c.args.at.column
cell c width is =
    let r = c.self.inside in
    let at = c.args.at in
    let inside = inside-cut r.widths.items r.rows.now c.self.view_is c.requires in
    ap (λ w. cut_cell w c.line-columns.result.0.now)
    (sym is ∙ c.width_at.ensures ∙ ap (λ widths. get_or widths at.column None) c.deref.ensures.value)
    ∙ ap (cut_cell (get_or r.widths.items at.column None)) c.line-columns.ensures.text
    ∙ cell-cut r.widths.items r.rows.now at.row at.column c.self.view_is inside.row_in

-- ---- a column without a width

pub returns-in_default-clause-text : goal.returns-in_default-clause-text
returns-in_default-clause-text c = cell (goal.at.returns-in_default-clause-text c).After-width_at None c.in_default.is

pub returns-in_default-clause-columns : goal.returns-in_default-clause-columns
returns-in_default-clause-columns c = c.line-columns.ensures.columns ∙ ap text_columns (returns-in_default-clause-text c)

pub returns-in_default-clause-lines : goal.returns-in_default-clause-lines
returns-in_default-clause-lines c = sym c.line-columns.ensures.one ∙ ap (λ text. length (lines_of text)) (returns-in_default-clause-text c)

-- ---- a cell that isn't wider

pub returns-then-columns-n-clause-text : goal.returns-then-columns-n-clause-text
returns-then-columns-n-clause-text c =
    let n = c.in-Some.n in
    let text = c.line-columns.result.0.now in
    let d = goal.at.returns-then-columns-n-clause-text c in
    sym (cuts-narrow n text (omega (arith, c.if-columns-n.true, c.line-columns.ensures.columns))) ∙ cell d.After-width_at (Some n) c.in-Some.is

pub returns-then-columns-n-clause-columns : goal.returns-then-columns-n-clause-columns
returns-then-columns-n-clause-columns c = c.line-columns.ensures.columns ∙ ap text_columns (returns-then-columns-n-clause-text c)

pub returns-then-columns-n-clause-lines : goal.returns-then-columns-n-clause-lines
returns-then-columns-n-clause-lines c =
    sym c.line-columns.ensures.one ∙ ap (λ text. length (lines_of text)) (returns-then-columns-n-clause-text c)

-- ---- printable ASCII

printable : (rows : List (List (List ℕ))) {text : List ℕ} (row column : ℕ) → ArePrintable rows → text ≡ cell_at rows row column → IsPrintableAscii text
printable rows row column all same = subst IsPrintableAscii (sym same) (all row column)

pub range-requires-clause-end_boundary : goal.range-requires-clause-end_boundary
range-requires-clause-end_boundary c =
    let r = c.self.inside in
    let n = c.in-Some.n in
    let text = c.line-columns.result.0.now in
    let all : ArePrintable r.rows.now = subst (IsCutKnown r.widths.items r.rows.now) c.in_default-texts.is c.self.invariant in
    let own = printable r.rows.now c.args.at.row c.args.at.column all c.line-columns.ensures.text in
    printable-boundary text n own (omega (arith, c.if-columns-n.false, c.line-columns.ensures.columns, printable-columns text own))

pub returns-in_default-texts-clause-text : goal.returns-in_default-texts-clause-text
returns-in_default-texts-clause-text c =
    let r = c.self.inside in
    let n = c.in-Some.n in
    let text = c.line-columns.result.0.now in
    let d = goal.at.returns-in_default-texts-clause-text c in
    let all : ArePrintable r.rows.now = subst (IsCutKnown r.widths.items r.rows.now) c.in_default-texts.is c.self.invariant in
    let own = printable r.rows.now c.args.at.row c.args.at.column all c.line-columns.ensures.text in
    c.range.ensures.value ∙ front-bytes n text ∙ sym (cuts-printable n text own (omega (arith, c.if-columns-n.false, c.line-columns.ensures.columns)))
    ∙ cell d.After-width_at (Some n) c.in-Some.is

pub returns-in_default-texts-clause-columns : goal.returns-in_default-texts-clause-columns
returns-in_default-texts-clause-columns c =
    let r = c.self.inside in
    let n = c.in-Some.n in
    let text = c.line-columns.result.0.now in
    let all : ArePrintable r.rows.now = subst (IsCutKnown r.widths.items r.rows.now) c.in_default-texts.is c.self.invariant in
    let own = printable r.rows.now c.args.at.row c.args.at.column all c.line-columns.ensures.text in
    let front = printable-columns (take n text) (printable-cut text n own) in
    let size : n ≡ length (take n text) =
    omega (arith, length-take n text, c.if-columns-n.false, c.line-columns.ensures.columns, printable-columns text own) in
    size ∙ sym front ∙ ap text_columns (sym (c.range.ensures.value ∙ front-bytes n text) ∙ returns-in_default-texts-clause-text c)

pub returns-in_default-texts-clause-lines : goal.returns-in_default-texts-clause-lines
returns-in_default-texts-clause-lines c =
    let r = c.self.inside in
    let n = c.in-Some.n in
    let text = c.line-columns.result.0.now in
    let all : ArePrintable r.rows.now = subst (IsCutKnown r.widths.items r.rows.now) c.in_default-texts.is c.self.invariant in
    let own = printable r.rows.now c.args.at.row c.args.at.column all c.line-columns.ensures.text in
    sym (printable-lines (take n text) (printable-cut text n own))
    ∙ ap (λ text. length (lines_of text)) (sym (c.range.ensures.value ∙ front-bytes n text) ∙ returns-in_default-texts-clause-text c)

-- ---- no columns

pub returns-then-n-eq0-clause-text : goal.returns-then-n-eq0-clause-text
returns-then-n-eq0-clause-text c =
    let text = c.line-columns.result.0.now in
    let d = goal.at.returns-then-n-eq0-clause-text c in
    sym (cuts-nothing text (omega (arith, c.if-columns-n.false, c.line-columns.ensures.columns))) ∙ ap (λ n. cuts n text) (sym c.if-n-eq0.true)
    ∙ cell d.After-width_at (Some c.in-Some.n) c.in-Some.is

pub returns-then-n-eq0-clause-columns : goal.returns-then-n-eq0-clause-columns
returns-then-n-eq0-clause-columns c = (told_empty refl).wide ∙ ap text_columns (returns-then-n-eq0-clause-text c)

pub returns-then-n-eq0-clause-lines : goal.returns-then-n-eq0-clause-lines
returns-then-n-eq0-clause-lines c = (told_empty refl).high ∙ ap (λ text. length (lines_of text)) (returns-then-n-eq0-clause-text c)

-- ---- what is told of a wider cell

-- a cell that only fills up its row isn't wider
pub unreachable-requires : goal.unreachable-requires
unreachable-requires c =
    let r = c.self.inside in
    let at = c.args.at in
    let all = known-cut r.widths.items r.rows.now c.in-Some-texts.is c.self.invariant in
    let inside = inside-cut r.widths.items r.rows.now c.self.view_is c.requires in
    let row_in : at.row < length c.in-Some-texts.texts.ranges = omega (arith, inside.row_in, all.0) in
    let none = (all.1.cells at.row at.column (0, 0) row_in inside).1 (c.in_default-told.ensures.none (0, 0)) in
    let narrow = (told_empty (c.line-columns.ensures.text ∙ none)).wide in
    omega (arith, c.if-columns-n.false, c.line-columns.ensures.columns, narrow)

-- what is told is right
right : (c : In-Some-told) → IsTold cuts tells_cut c.in-Some.n c.line-columns.result.0.now (c.in-Some-told.first, c.in-Some-told.kept) c.in-Some-texts.texts.made
right c =
    let r = c.self.inside in
    let at = c.args.at in
    let told : ℕ × ℕ = (c.in-Some-told.first, c.in-Some-told.kept) in
    let all = known-cut r.widths.items r.rows.now c.in-Some-texts.is c.self.invariant in
    let inside = inside-cut r.widths.items r.rows.now c.self.view_is c.requires in
    let own = c.in-Some-told.ensures.some (0, 0) told in
    let width = ap (λ widths. get_or widths at.column None) (sym c.deref.ensures.value) ∙ sym c.width_at.ensures ∙ c.in-Some.is in
    told-right (0, 0) told all.1 (omega (arith, inside.row_in, all.0)) inside own.0 own.1 width c.line-columns.ensures.text (omega (arith, c.if-n-eq0.false))

-- it was made
made : (c : In-Some-told) → c.in-Some-told.kept ≡ 0
    → (c.in-Some-told.first < length c.in-Some-texts.texts.made)
    × (get_or c.in-Some-texts.texts.made c.in-Some-told.first [] ≡ cuts c.in-Some.n c.line-columns.result.0.now)
made c none =
    right-made cuts tells_cut c.in-Some.n c.line-columns.result.0.now (c.in-Some-told.first, c.in-Some-told.kept) c.in-Some-texts.texts.made (right c) none

-- or two numbers tell it
in_place : (c : In-Some-told) → (c.in-Some-told.kept ≡ 0 → ⊥)
    → MatchBool (c.in-Some-told.kept == 1) (IsCutAt c.in-Some.n c.line-columns.result.0.now c.in-Some-told.first 0)
    (IsCutAt c.in-Some.n c.line-columns.result.0.now 0 1)
in_place c some =
    right-in_place cuts tells_cut c.in-Some.n c.line-columns.result.0.now (c.in-Some-told.first, c.in-Some-told.kept) c.in-Some-texts.texts.made (right c) some
    (omega (arith, c.if-columns-n.false, c.line-columns.ensures.columns))

pub text-columns-requires : goal.text-columns-requires
text-columns-requires c = (made (goal.at.text-columns-requires c).In-Some-told c.if-kept-eq0.true).0

pub returns-then-kept-eq0-clause-text : goal.returns-then-kept-eq0-clause-text
returns-then-kept-eq0-clause-text c =
    let d = goal.at.returns-then-kept-eq0-clause-text c in
    c.text-columns.ensures.text ∙ (made d.In-Some-told c.if-kept-eq0.true).1 ∙ cell d.After-width_at (Some c.in-Some.n) c.in-Some.is

pub returns-then-kept-eq0-clause-columns : goal.returns-then-kept-eq0-clause-columns
returns-then-kept-eq0-clause-columns c = c.text-columns.ensures.columns ∙ ap text_columns (returns-then-kept-eq0-clause-text c)

pub returns-then-kept-eq0-clause-lines : goal.returns-then-kept-eq0-clause-lines
returns-then-kept-eq0-clause-lines c =
    sym (cuts-one_line c.in-Some.n c.line-columns.result.0.now (subst IsUtf8 (sym c.line-columns.ensures.text) (c.are_texts.ensures.utf8 c.args.at.row c.args.at.column)) c.line-columns.ensures.one)
    ∙ ap (λ text. length (lines_of text)) (cell (goal.at.returns-then-kept-eq0-clause-lines c).After-width_at (Some c.in-Some.n) c.in-Some.is)

-- its first bytes are left
front : (c : In-Some-told) → c.in-Some-told.kept ≡ 1 → IsCutAt c.in-Some.n c.line-columns.result.0.now c.in-Some-told.first 0
front c one = MatchBool-at_true _ _ (eq-eqb c.in-Some-told.kept 1 one) (in_place c (λ zero. absurd (omega (arith, zero, one))))

left : (c : In-Some-told) → c.in-Some-told.kept ≡ 1 → take c.in-Some-told.first c.line-columns.result.0.now ≡ cuts c.in-Some.n c.line-columns.result.0.now
left c one =
    let n = c.in-Some.n in
    let text = c.line-columns.result.0.now in
    let own = front c one in
    sym (own.same ∙ append-nil (take c.in-Some-told.first text)) ∙ sym (cuts-wide n text (omega (arith, c.if-columns-n.false, c.line-columns.ensures.columns)))

pub range-requires-then-kept-eq1-clause-end_boundary : goal.range-requires-then-kept-eq1-clause-end_boundary
range-requires-then-kept-eq1-clause-end_boundary c = (front (goal.at.range-requires-then-kept-eq1-clause-end_boundary c).In-Some-told c.if-kept-eq1.true).boundary

pub returns-then-kept-eq1-clause-text : goal.returns-then-kept-eq1-clause-text
returns-then-kept-eq1-clause-text c =
    let d = goal.at.returns-then-kept-eq1-clause-text c in
    c.range-then-kept-eq1.ensures.value ∙ front-bytes c.in-Some-told.first c.line-columns.result.0.now ∙ left d.In-Some-told c.if-kept-eq1.true
    ∙ cell d.After-width_at (Some c.in-Some.n) c.in-Some.is

pub returns-then-kept-eq1-clause-columns : goal.returns-then-kept-eq1-clause-columns
returns-then-kept-eq1-clause-columns c =
    let n = c.in-Some.n in
    let text = c.line-columns.result.0.now in
    let d = goal.at.returns-then-kept-eq1-clause-columns c in
    (front d.In-Some-told c.if-kept-eq1.true).columns_are
    ∙ ap text_columns (sym (cuts-wide n text (omega (arith, c.if-columns-n.false, c.line-columns.ensures.columns)))
    ∙ cell d.After-width_at (Some n) c.in-Some.is)

pub returns-then-kept-eq1-clause-lines : goal.returns-then-kept-eq1-clause-lines
returns-then-kept-eq1-clause-lines c =
    sym (cuts-one_line c.in-Some.n c.line-columns.result.0.now (subst IsUtf8 (sym c.line-columns.ensures.text) (c.are_texts.ensures.utf8 c.args.at.row c.args.at.column)) c.line-columns.ensures.one)
    ∙ ap (λ text. length (lines_of text)) (cell (goal.at.returns-then-kept-eq1-clause-lines c).After-width_at (Some c.in-Some.n) c.in-Some.is)

-- or U+FFFD alone is
alone : (c : In-Some-told) → (c.in-Some-told.kept ≡ 0 → ⊥) → (c.in-Some-told.kept ≡ 1 → ⊥) → IsCutAt c.in-Some.n c.line-columns.result.0.now 0 1
alone c some more = MatchBool-at_false _ _ (ne_eqb c.in-Some-told.kept 1 more) (in_place c some)

pub returns-clause-text : goal.returns-clause-text
unfolding lib.Utf8.encode
returns-clause-text c =
    let n = c.in-Some.n in
    let text = c.line-columns.result.0.now in
    let d = goal.at.returns-clause-text c in
    sym (alone d.In-Some-told c.if-kept-eq0.false c.if-kept-eq1.false).same
    ∙ sym (cuts-wide n text (omega (arith, c.if-columns-n.false, c.line-columns.ensures.columns)))
    ∙ cell d.After-width_at (Some n) c.in-Some.is

pub returns-clause-columns : goal.returns-clause-columns
returns-clause-columns c =
    let n = c.in-Some.n in
    let text = c.line-columns.result.0.now in
    let d = goal.at.returns-clause-columns c in
    (alone d.In-Some-told c.if-kept-eq0.false c.if-kept-eq1.false).columns_are
    ∙ ap text_columns (sym (cuts-wide n text (omega (arith, c.if-columns-n.false, c.line-columns.ensures.columns)))
    ∙ cell d.After-width_at (Some n) c.in-Some.is)

pub returns-clause-lines : goal.returns-clause-lines
returns-clause-lines c =
    sym (cuts-one_line c.in-Some.n c.line-columns.result.0.now (subst IsUtf8 (sym c.line-columns.ensures.text) (c.are_texts.ensures.utf8 c.args.at.row c.args.at.column)) c.line-columns.ensures.one)
    ∙ ap (λ text. length (lines_of text)) (cell (goal.at.returns-clause-lines c).After-width_at (Some c.in-Some.n) c.in-Some.is)
