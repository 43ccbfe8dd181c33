-- Rows whose cells are cut to their columns.
use Rattle.tabled_records.proofs.Names.{IsCharBoundary, IsUtf8, List, None, Option, Some, [], ap, append-nil, arith, cell_at}
use Rattle.tabled_records.proofs.Names.{cond, drop, slice_range, ◌-◌, false, get_or, is_in_range, length, lines_of, refl, subst, sym, take}
use Rattle.tabled_records.proofs.Names.{text_columns, true, ℕ, ◌<◌, ◌∙◌, ◌≡◌, ◌≤◌}
use Rattle.std.proofs.Common.{chars, encode_utf8_all, nat_lt, ◌∷◌}
use Rattle.std.proofs.lemmas.Bool.Decides.{nat_tests}
use Rattle.std.proofs.lemmas.Bool.{lt-ltb}
use Rattle.std.proofs.lemmas.List.Elements.{All-take}
use Rattle.std.proofs.lemmas.List.Sums.{AllPass-from_list_all, list_all-from_AllPass}
use Rattle.std.proofs.lemmas.Str.{IsUtf8-from_ascii}
use Rattle.tabled_text.proofs.CutLemmas.{IsCut-filled}
use Rattle.tabled_text.proofs.Basics.{cond-cases}
use Rattle.tabled_text.proofs.CutText.{cut-one_line, cut-text}
use Rattle.tabled_text.proofs.Pieces.{IsAscii-printable, parted-printable}
use Rattle.tabled_text.proofs.PlainLines.{plain_line-lines, plain_line-printable, text_columns-plain_line}
use Rattle.tabled_records.proofs.SizedRows.{cell-sized, inside-sized}
use Rattle.tabled_records.specs.CutLentRows.{IsCutKnown, cut_cell, cut_rows, cuts, tells_cut}
use Rattle.tabled_base.specs.Printable.{IsPrintableAscii}
use Rattle.tabled_records.specs.NarrowedTexts.{AreKnown}
use Rattle.tabled_records.specs.declared.narrowed_texts.NarrowedTexts.{NarrowedTexts}
use Rattle.tabled_base.specs.Cells.{IsInside}
use Rattle.tabled_text.specs.Cut.{IsCut, cut_behind, cut_text}

-- ---- one text

-- a printable text has as many columns as bytes
pub printable-columns : (text : List ℕ) → IsPrintableAscii text → text_columns text ≡ length text
printable-columns text h = text_columns-plain_line (plain_line-printable text h)

-- and is cut in front of any byte
pub printable-boundary : (text : List ℕ) (n : ℕ) → IsPrintableAscii text → n ≤ length text → IsCharBoundary text n
printable-boundary text n h l = (
  l,
  λ below wide.
      let own : is_in_range 0x20 0x7E (get_or text n 0) ≡ true = AllPass-from_list_all (is_in_range 0x20 0x7E) text h n 0 below in
      grind (arith, nat_tests),
)

pub printable-cut : (text : List ℕ) (n : ℕ) → IsPrintableAscii text → IsPrintableAscii (take n text)
printable-cut text n h =
    list_all-from_AllPass (is_in_range 0x20 0x7E) (take n text) (All-take (λ b. is_in_range 0x20 0x7E b ≡ true) n text (AllPass-from_list_all (is_in_range 0x20 0x7E) text h))

-- a printable text is one line
pub printable-lines : (text : List ℕ) → IsPrintableAscii text → length (lines_of text) ≡ 1
printable-lines text h = ap length (plain_line-lines (plain_line-printable text h))

pub front-bytes : (n : ℕ) (text : List ℕ) → slice_range text 0 n ≡ take n text
front-bytes n text = let same : n - 0 ≡ n = omega arith in ap (λ k. take k text) same

-- a text that isn't wider isn't cut
pub cuts-narrow : (n : ℕ) (text : List ℕ) → text_columns text ≤ n → cuts n text ≡ text
cuts-narrow n text l = let none : nat_lt n (text_columns text) ≡ false = grind (arith, nat_tests) in ap (λ b. cond b (cut_text n text) text) none

pub cuts-wide : (n : ℕ) (text : List ℕ) → n < text_columns text → cuts n text ≡ cut_text n text
cuts-wide n text l = ap (λ b. cond b (cut_text n text) text) (lt-ltb n (text_columns text) l)

-- a printable text is cut to its first n bytes
pub cuts-printable : (n : ℕ) (text : List ℕ) → IsPrintableAscii text → n < text_columns text → cuts n text ≡ take n text
cuts-printable n text h l =
    let front = take n text in
    let all = printable-cut text n h in
    let cut : IsCut n text front =
    IsCut-filled (IsUtf8-from_ascii front (IsAscii-printable front all))
    (parted-printable n text front (drop n text) (omega (arith, l, printable-columns text h)) all refl refl) (sym (append-nil front)) in
    cuts-wide n text l ∙ sym (cut-text (IsUtf8-from_ascii text (IsAscii-printable text h)) cut)

-- nothing is left of any text for no columns
pub cuts-nothing : (text : List ℕ) → 0 < text_columns text → cuts 0 text ≡ []
cuts-nothing text l = cuts-wide 0 text l ∙ ap encode_utf8_all (none (chars text))
  where
    none : (cs : List ℕ) → cut_behind 0 0 cs ≡ []
    none [] = refl
    none (c ∷ cs) = refl

pub cuts-nil : (n : ℕ) → cuts n [] ≡ []
cuts-nil n = cuts-narrow n [] (omega (arith, printable-columns [] refl))

-- ---- cells

pub inside-cut : (widths : List (Option ℕ)) (rows : List (List (List ℕ))) {cut : List (List (List ℕ))} {row column : ℕ}
    → cut_rows widths rows ≡ cut → IsInside cut row column → IsInside rows row column
inside-cut widths rows is h = inside-sized cuts widths rows is h

pub cell-cut : (widths : List (Option ℕ)) (rows : List (List (List ℕ))) {cut : List (List (List ℕ))} (row column : ℕ)
    → cut_rows widths rows ≡ cut → row < length rows → cut_cell (get_or widths column None) (cell_at rows row column) ≡ cell_at cut row column
cell-cut widths rows row column is l =
    sym (cell-sized cuts cuts-nil widths rows row column l) ∙ ap (λ cells. cell_at cells row column) is

-- all that is told is right
pub known-cut : (widths : List (Option ℕ)) (rows : List (List (List ℕ))) {found : Option NarrowedTexts} {texts : NarrowedTexts}
    → found ≡ Some texts → IsCutKnown widths rows found → (length texts.ranges ≡ length rows) × AreKnown cuts tells_cut widths rows texts
known-cut widths rows is h = subst (IsCutKnown widths rows) is h

-- one line is left of one
pub cuts-one_line : (n : ℕ) (text : List ℕ) → IsUtf8 text → length (lines_of text) ≡ 1 → length (lines_of (cuts n text)) ≡ 1
cuts-one_line n text u one =
    cond-cases (λ t. length (lines_of t) ≡ 1) (nat_lt n (text_columns text)) (cut_text n text) text (λ _. cut-one_line n text u one) (λ _. one)

pub cell-one_line : (width : Option ℕ) (text : List ℕ) → IsUtf8 text → length (lines_of text) ≡ 1 → length (lines_of (cut_cell width text)) ≡ 1
cell-one_line None text u one = one
cell-one_line (Some n) text u one = cuts-one_line n text u one
