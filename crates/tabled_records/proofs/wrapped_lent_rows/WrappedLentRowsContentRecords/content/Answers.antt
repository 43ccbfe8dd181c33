use Rattle.tabled_records.proofs.Names.{None, Option, Some, [], ap, arith, cell_at, false, get_or, length, refl, subst, sym, ℕ, ◌<◌, ◌∙◌, ◌≡◌}
use Rattle.std.proofs.Common.{rules}
use Rattle.tabled_records.proofs.Joining.{told_empty}
use Rattle.tabled_records.proofs.ToldTexts.{right-in_place, right-made, told-right}
use Rattle.tabled_records.proofs.WrappedRows.{cell-wrapped, ended-in_place, ends-in_place, inside-wrapped, known-texts, wrapped-nil}
use Rattle.tabled_records.specs.CutLentRows.{ArePrintable}
use Rattle.tabled_base.specs.Printable.{IsPrintableAscii}
use Rattle.tabled_records.specs.NarrowedTexts.{IsTold}
use Rattle.tabled_records.specs.WrappedLentRows.{IsKnown, tells_wrapped, wrapped_cell, wraps}
use Rattle.tabled_text.specs.LineEnds.{IsWrappedInPlace, wrapped_text}
use Rattle.tabled_text.specs.Measure.{lines_of, text_columns}
use Rattle.tabled_records.proofs.wrapped_lent_rows.WrappedLentRowsContentRecords.content.Goals.{After-width_at, In-Some-told}
use Rattle.tabled_records.proofs.wrapped_lent_rows.WrappedLentRowsContentRecords.content.Goals as goal

pub line-columns-requires : goal.line-columns-requires
line-columns-requires c = inside-wrapped c.self.inside.words c.self.inside.widths.items c.self.inside.rows.now c.self.view_is c.requires

-- the cell is the text there, wrapped to the width of its column
cell : (c : After-width_at) (width : Option ℕ) → c.width_at.result ≡ width
    → wrapped_cell c.self.inside.words width c.line-columns.result.0.now ≡ cell_at c.args.self.now c.args.at.row c.args.at.column
cell c width is =
    let r = c.self.inside in
    let at = c.args.at in
    let inside = inside-wrapped r.words r.widths.items r.rows.now c.self.view_is c.requires in
    ap (λ w. wrapped_cell r.words w c.line-columns.result.0.now)
    (sym is ∙ c.width_at.ensures ∙ ap (λ widths. get_or widths at.column None) c.deref.ensures.value)
    ∙ ap (wrapped_cell r.words (get_or r.widths.items at.column None)) c.line-columns.ensures.text
    ∙ cell-wrapped r.words r.widths.items r.rows.now at.row at.column c.self.view_is inside.row_in

pub returns-in_default : goal.returns-in_default
returns-in_default c = c.measured.ensures ∙ cell (goal.at.returns-in_default c).After-width_at None c.in_default.is

pub returns-in_default-texts : goal.returns-in_default-texts
returns-in_default-texts c =
    let r = c.self.inside in
    let n = c.in-Some.n in
    let known : ArePrintable r.rows.now × (r.words ≡ false) = subst (IsKnown r.words r.widths.items r.rows.now) c.in_default-texts.is c.self.invariant in
    c.printable_content.ensures ∙ ap (λ words. wrapped_text n words c.line-columns.result.0.now) (sym known.1)
    ∙ cell (goal.at.returns-in_default-texts c).After-width_at (Some n) c.in-Some.is

pub measured-requires-in_default-told-clause-columns : goal.measured-requires-in_default-told-clause-columns
measured-requires-in_default-told-clause-columns c = (told_empty refl).wide

pub returns-in_default-told : goal.returns-in_default-told
returns-in_default-told c =
    let r = c.self.inside in
    let at = c.args.at in
    let n = c.in-Some.n in
    let text = c.line-columns.result.0.now in
    let all = known-texts r.words r.widths.items r.rows.now c.in-Some-texts.is c.self.invariant in
    let inside = inside-wrapped r.words r.widths.items r.rows.now c.self.view_is c.requires in
    let row_in : at.row < length c.in-Some-texts.texts.ranges = omega (arith, inside.row_in, all.0) in
    let none : text ≡ [] = c.line-columns.ensures.text ∙ (all.1.cells at.row at.column (0, 0) row_in inside).1 (c.in_default-told.ensures.none (0, 0)) in
    c.measured-in_default-told.ensures ∙ sym (wrapped-nil r.words n) ∙ ap (λ text. wrapped_text n r.words text) (sym none)
    ∙ cell (goal.at.returns-in_default-told c).After-width_at (Some n) c.in-Some.is

pub measured-requires-then-n-eq0-clause-columns : goal.measured-requires-then-n-eq0-clause-columns
measured-requires-then-n-eq0-clause-columns c = (told_empty refl).wide

pub returns-then-n-eq0 : goal.returns-then-n-eq0
returns-then-n-eq0 c =
    c.measured-then-n-eq0.ensures ∙ ap (λ n. wrapped_text n c.self.inside.words c.line-columns.result.0.now) (sym c.if-n-eq0.true)
    ∙ cell (goal.at.returns-then-n-eq0 c).After-width_at (Some c.in-Some.n) c.in-Some.is

-- what is told of the cell is right
right : (c : In-Some-told) → 0 < c.in-Some.n
    → IsTold (wraps c.self.inside.words) (tells_wrapped c.self.inside.words) c.in-Some.n c.line-columns.result.0.now (c.in-Some-told.first, c.in-Some-told.lines) c.in-Some-texts.texts.made
right c some =
    let r = c.self.inside in
    let at = c.args.at in
    let told : ℕ × ℕ = (c.in-Some-told.first, c.in-Some-told.lines) in
    let all = known-texts r.words r.widths.items r.rows.now c.in-Some-texts.is c.self.invariant in
    let inside = inside-wrapped r.words r.widths.items r.rows.now c.self.view_is c.requires in
    let own = c.in-Some-told.ensures.some (0, 0) told in
    let width = ap (λ widths. get_or widths at.column None) (sym c.deref.ensures.value) ∙ sym c.width_at.ensures ∙ c.in-Some.is in
    told-right (0, 0) told all.1 (omega (arith, inside.row_in, all.0)) inside own.0 own.1 width c.line-columns.ensures.text some

-- it was made
made : (c : In-Some-told) → 0 < c.in-Some.n → c.in-Some-told.lines ≡ 0
    → (c.in-Some-told.first < length c.in-Some-texts.texts.made)
    × (get_or c.in-Some-texts.texts.made c.in-Some-told.first [] ≡ wrapped_text c.in-Some.n c.self.inside.words c.line-columns.result.0.now)
made c some none =
    right-made (wraps c.self.inside.words) (tells_wrapped c.self.inside.words) c.in-Some.n c.line-columns.result.0.now (c.in-Some-told.first, c.in-Some-told.lines) c.in-Some-texts.texts.made (right c some) none

-- or it is broken where it stands
in_place : (c : In-Some-told) → 0 < c.in-Some.n → (c.in-Some-told.lines ≡ 0 → ⊥)
    → IsWrappedInPlace c.in-Some.n c.self.inside.words c.line-columns.result.0.now c.in-Some-told.first c.in-Some-told.lines
in_place c some lines =
    right-in_place (wraps c.self.inside.words) (tells_wrapped c.self.inside.words) c.in-Some.n c.line-columns.result.0.now (c.in-Some-told.first, c.in-Some-told.lines) c.in-Some-texts.texts.made (right c some) lines

pub content-requires : goal.content-requires
content-requires c = (made (goal.at.content-requires c).In-Some-told (omega (arith, c.if-n-eq0.false)) c.in-0.is).0

pub returns-in-0 : goal.returns-in-0
returns-in-0 c =
    let d = goal.at.returns-in-0 c in
    c.content.ensures ∙ (made d.In-Some-told (omega (arith, c.if-n-eq0.false)) c.in-0.is).1 ∙ cell d.After-width_at (Some c.in-Some.n) c.in-Some.is

pub returns-in-1 : goal.returns-in-1
returns-in-1 c =
    let d = goal.at.returns-in-1 c in
    let own = in_place d.In-Some-told (omega (arith, c.if-n-eq0.false)) (λ z. omega (arith, z, c.in-1.is)) in
    c.measured-in-1.ensures ∙ sym (own.whole c.in-1.is) ∙ cell d.After-width_at (Some c.in-Some.n) c.in-Some.is

pub invariant_of-result : goal.invariant_of-result
invariant_of-result c =
    let text = c.line-columns.result.0.now in
    let none : c.in-Some-told.lines ≡ 0 → ⊥ = search (rules, c.in_default-lines) in
    let several : c.in-Some-told.lines ≡ 1 → ⊥ = search (rules, c.in_default-lines) in
    let own = in_place (goal.at.invariant_of-result c).In-Some-told (omega (arith, c.if-n-eq0.false)) none in
    let same = own.broken several ∙ sym (ended-in_place text c.ends_in.ensures) in
    let plain = λ (all : ArePrintable c.self.inside.rows.now). subst IsPrintableAscii (sym c.line-columns.ensures.text) (all c.args.at.row c.args.at.column) in
    record {
      ends_are = ends-in_place text plain c.ends_in.ensures (own.letters several);
      one_is = λ one. absurd (several one);
      columns_are = own.columns_are ∙ ap text_columns same;
      lines_are = own.lines_are ∙ ap (λ text. length (lines_of text)) same;
    }

pub returns-in_default-lines : goal.returns-in_default-lines
returns-in_default-lines c =
    let d = goal.at.returns-in_default-lines c in
    let own = in_place d.In-Some-told (omega (arith, c.if-n-eq0.false)) (search (rules, c.in_default-lines)) in
    ended-in_place c.line-columns.result.0.now c.ends_in.ensures ∙ sym (own.broken (search (rules, c.in_default-lines)))
    ∙ cell d.After-width_at (Some c.in-Some.n) c.in-Some.is
