-- Rows whose cells are wrapped to their columns.
use Rattle.tabled_records.proofs.Names.{List, None, Option, Some, [], ap, append-nil, arith, cell_at, cond, false, get_or, inl, inr, is_in_range}
use Rattle.tabled_records.proofs.Names.{length, lines_of, refl, subst, suc, sym, zero, ℕ, ◌<◌, ◌∙◌, ◌∷◌, ◌≡◌, ◌≤◌}
use Rattle.std.proofs.Common.{Bool, chars, encode_utf8_all, nat_lt, ◌⊎◌}
use Rattle.std.proofs.lemmas.Bool.{and_from, and_parts, ne_eqb}
use Rattle.std.specs.List.{list_all}
use Rattle.tabled_base.specs.Cells.{IsInside}
use Rattle.tabled_text.proofs.Pieces.{chars-printable}
use Rattle.tabled_text.proofs.PlainLines.{plain_line-lines, plain_line-printable}
use Rattle.tabled_text.proofs.WrapKept.{written-short}
use Rattle.tabled_text.specs.Breaking.{units}
use Rattle.tabled_text.specs.Letters.{is_letter_byte}
use Rattle.tabled_text.specs.LineEnds.{AreEnds, ended_text, wrapped_text}
use Rattle.tabled_text.specs.Walk.{append_all, pending}
use Rattle.tabled_text.specs.declared.line_ends.LineEnds.{LineEnds}
use Rattle.tabled_text.specs.declared.line_ends.LineEnds.TheVariants.{Bytes, Columns}
use Rattle.tabled_records.proofs.SizedRows.{cell-sized, inside-sized}
use Rattle.tabled_base.specs.Printable.{IsPrintableAscii}
use Rattle.tabled_records.specs.NarrowedTexts.{AreKnown}
use Rattle.tabled_records.specs.WrappedLentRows.{IsKnown, tells_wrapped, wrapped_cell, wrapped_rows, wraps}
use Rattle.tabled_records.specs.declared.narrowed_texts.NarrowedTexts.{NarrowedTexts}

-- printable ASCII of no more bytes than the width is wrapped to itself
pub wrapped-short : (n : ℕ) (words : Bool) (text : List ℕ) → IsPrintableAscii text → length text ≤ n → wrapped_text n words text ≡ text
wrapped-short zero words [] h l = refl
wrapped-short zero words (c ∷ text) h l = absurd (omega (arith, l))
wrapped-short (suc n) words text h l =
    let line = plain_line-printable text h in
    let same = chars-printable text h in
    let one : lines_of (chars text) ≡ chars text ∷ [] = ap lines_of same ∙ plain_line-lines line ∙ ap (λ cs. cs ∷ []) (sym same) in
    ap (λ b. cond b [] (encode_utf8_all (pending (suc n) words false (lines_of (chars text))))) (ne_eqb (suc n) 0 (λ e. omega (arith, e)))
    ∙ ap (λ lines. encode_utf8_all (pending (suc n) words false lines)) one
    ∙ ap encode_utf8_all (append-nil (append_all (suc n) 0 (units (suc n) words (chars text))))
    ∙ sym (written-short (suc n) words text line.utf8 l)

-- and so is the empty text
pub wrapped-nil : (words : Bool) (n : ℕ) → wrapped_text n words [] ≡ []
wrapped-nil words n = wrapped-short n words [] refl (omega arith)

-- ---- cells

pub inside-wrapped : (words : Bool) (widths : List (Option ℕ)) (rows : List (List (List ℕ))) {wrapped : List (List (List ℕ))} {row column : ℕ}
    → wrapped_rows words widths rows ≡ wrapped → IsInside wrapped row column → IsInside rows row column
inside-wrapped words widths rows is h = inside-sized (wraps words) widths rows is h

pub cell-wrapped : (words : Bool) (widths : List (Option ℕ)) (rows : List (List (List ℕ))) {wrapped : List (List (List ℕ))} (row column : ℕ)
    → wrapped_rows words widths rows ≡ wrapped → row < length rows → wrapped_cell words (get_or widths column None) (cell_at rows row column) ≡ cell_at wrapped row column
cell-wrapped words widths rows row column is l =
    sym (cell-sized (wraps words) (wrapped-nil words) widths rows row column l) ∙ ap (λ cells. cell_at cells row column) is

-- ---- what is told of a text

-- all that is told is right
pub known-texts : (words : Bool) (widths : List (Option ℕ)) (rows : List (List (List ℕ))) {found : Option NarrowedTexts} {texts : NarrowedTexts}
    → found ≡ Some texts → IsKnown words widths rows found
    → (length texts.ranges ≡ length rows) × AreKnown (wraps words) (tells_wrapped words) widths rows texts
known-texts words widths rows is h = subst (IsKnown words widths rows) is h

-- ---- what ends the lines of a text that is broken where it stands

pub ended-in_place : {ends : LineEnds} {n : ℕ} {P : Type 0} (text : List ℕ) → (ends ≡ Columns n) ⊎ ((ends ≡ Bytes n) × P) → ended_text ends text ≡ wrapped_text n false text
ended-in_place text (inl e) = ap (λ ends. ended_text ends text) e
ended-in_place text (inr e) = ap (λ ends. ended_text ends text) e.0

pub ends-in_place : {ends : LineEnds} {n : ℕ} {P : Type 0} (text : List ℕ) → (P → IsPrintableAscii text) → (ends ≡ Columns n) ⊎ ((ends ≡ Bytes n) × P)
    → AreEnds (Columns n) text → AreEnds ends text
ends-in_place text plain (inl e) h = subst (λ ends. AreEnds ends text) (sym e) h
ends-in_place {n} text plain (inr e) h =
    subst (λ ends. AreEnds ends text) (sym e.0)
    (and_from (nat_lt 0 n) (list_all (is_in_range 0x20 0x7E) text) (and_parts (nat_lt 0 n) (list_all is_letter_byte text) h).0 (plain e.1))
