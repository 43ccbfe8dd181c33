-- Printable ASCII is shown as it is, and the cells of a row of it are printable.
use Rattle.std.proofs.Common.{◌≡◌, ℕ, zero, suc, ◌-◌, Bool, true, false, not, ◌&&◌, ◌||◌, ◌==◌, List, [], ◌∷◌, refl, sym, ap, ◌∙◌, ◌≤◌, arith, chars, length, nat_le, drop}
use Rattle.std.specs.Char.{is_whitespace}
use Rattle.std.specs.Int.{is_in_range}
use Rattle.std.specs.List.{list_all, list_any}
use Rattle.std.specs.Prelude.{Some, unwrap_or}
use Rattle.std.proofs.lemmas.Bool.{and_from, and_parts, cond-false, le-leb, ne_eqb, not_from_false, or_from}
use Rattle.std.proofs.lemmas.Bool.Decides.{nat_tests}
use Rattle.std.proofs.lemmas.Str.{IsUtf8-from_ascii}
use Rattle.csv.specs.Records.{cut_from, field_at}
use Rattle.tabled_records.proofs.CutLent.{printable-columns}
use Rattle.tabled_text.proofs.Basics.{all-parts, all-weaker}
use Rattle.tabled_text.proofs.Pieces.{IsAscii-printable, chars-printable}
use Rattle.tabled_text.specs.Measure.{text_columns}
use Rattle.tabview_cells.proofs.Escapes.{above, below, escaped-none, inside}
use Rattle.tabview_cells.specs.Choice.{shown_text}
use Rattle.tabview_cells.specs.Escaping.{escaped, is_acting, is_control, is_directional, is_escaped, is_sign}
use Rattle.tabview_cells.specs.Kinds.{is_code}
use Rattle.tabled_base.specs.Printable.{is_printable}
use Rattle.tabview_cells.specs.Graphic.{is_graphic}
use Rattle.tabview_cells.specs.declared.choice.Shown.{Shown}
use Rattle.tabview_cells.specs.declared.choice.Shown.TheVariants.{Lines, OneLine, Raw}
use Rattle.tabview_cells.specs.declared.kinds.TheConstants.{CODE_COLUMNS}

-- a property of all bytes of a record is one of all bytes of each field
pub all-field : (test : ℕ → Bool) (start : ℕ) (ends bytes : List ℕ) (i : ℕ) → list_all test bytes ≡ true
    → list_all test (unwrap_or (field_at (cut_from start ends bytes) i) []) ≡ true
unfolding cut_from field_at
all-field test start [] bytes i h = refl
all-field test start (end ∷ ends) bytes zero h = (all-parts test (end - start) (drop start bytes) (all-parts test start bytes h).1).0
all-field test start (end ∷ ends) bytes (suc i) h = all-field test end ends bytes i h

pub all-found : (test : ℕ → Bool) (start : ℕ) (ends bytes : List ℕ) (i : ℕ) (field : List ℕ) → field_at (cut_from start ends bytes) i ≡ Some field
    → list_all test bytes ≡ true → list_all test field ≡ true
all-found test start ends bytes i field e h = ap (λ f. list_all test (unwrap_or f [])) (sym e) ∙ all-field test start ends bytes i h

-- no character of it is escaped
kept-printable : (lines : Bool) (c : ℕ) → is_in_range 0x20 0x7E c ≡ true → is_escaped lines c ≡ false
kept-printable lines c h =
    let p = inside 0x20 0x7E c h in
    let low : 0x20 ≤ c = p.0 in
    let high : c ≤ 0x7E = p.1 in
    let sign : is_sign c ≡ false = below 0x2400 0x2426 c (omega (arith, high)) in
    let first : is_in_range 0 0x1F c ≡ false = above 0 0x1F c (omega (arith, low)) in
    let second : is_in_range 0x7F 0x9F c ≡ false = below 0x7F 0x9F c (omega (arith, high)) in
    let third : is_in_range 0x202A 0x202E c ≡ false = below 0x202A 0x202E c (omega (arith, high)) in
    let fourth : is_in_range 0x2066 0x2069 c ≡ false = below 0x2066 0x2069 c (omega (arith, high)) in
    cond-false (c == 10) (not lines) (is_sign c || is_acting c) (ne_eqb c 10 (λ e. absurd (omega (arith, low, e))))
    ∙ or_from (is_sign c) (is_acting c) sign
    (or_from (is_control c) (is_directional c)
    (or_from (is_in_range 0 0x1F c) (is_in_range 0x7F 0x9F c) first second)
    (or_from (is_in_range 0x202A 0x202E c) (is_in_range 0x2066 0x2069 c) third fourth))

none-escaped : (lines : Bool) (cs : List ℕ) → is_printable cs ≡ true → list_any (is_escaped lines) cs ≡ false
none-escaped lines [] h = refl
none-escaped lines (c ∷ cs) h =
    let parts = and_parts (is_in_range 0x20 0x7E c) (is_printable cs) h in
    or_from (is_escaped lines c) (list_any (is_escaped lines) cs) (kept-printable lines c parts.0) (none-escaped lines cs parts.1)

pub escaped-printable : (lines : Bool) (text : List ℕ) → is_printable text ≡ true → text ≡ escaped lines text
escaped-printable lines text h =
    escaped-none lines text (IsUtf8-from_ascii text (IsAscii-printable text h))
    (ap (list_any (is_escaped lines)) (chars-printable text h) ∙ none-escaped lines text h)

-- it is shown as it is
pub shown-printable : (shown : Shown) (text : List ℕ) → is_printable text ≡ true → text ≡ shown_text shown text
shown-printable Raw text h = refl
shown-printable Lines text h = escaped-printable true text h
shown-printable OneLine text h = escaped-printable false text h

-- ---- without spaces
printable-graphic : (text : List ℕ) → is_graphic text ≡ true → is_printable text ≡ true
printable-graphic text h = all-weaker (is_in_range 0x21 0x7E) (is_in_range 0x20 0x7E) wider text h
  where
    wider : (c : ℕ) → is_in_range 0x21 0x7E c ≡ true → is_in_range 0x20 0x7E c ≡ true
    wider c e =
        let low : 0x21 ≤ c = (inside 0x21 0x7E c e).0 in
        and_from (nat_le 0x20 c) (nat_le c 0x7E) (le-leb 0x20 c (omega (arith, low))) (and_parts (nat_le 0x21 c) (nat_le c 0x7E) e).1

no-space : (c : ℕ) → is_in_range 0x21 0x7E c ≡ true → is_whitespace c ≡ false
no-space c h = grind (arith, nat_tests)

none-space : (cs : List ℕ) → is_graphic cs ≡ true → list_any is_whitespace cs ≡ false
none-space [] h = refl
none-space (c ∷ cs) h =
    let parts = and_parts (is_in_range 0x21 0x7E c) (is_graphic cs) h in
    or_from (is_whitespace c) (list_any is_whitespace cs) (no-space c parts.0) (none-space cs parts.1)

-- it is a code if it has few bytes
pub code-graphic : (cell : List ℕ) → is_graphic cell ≡ true → nat_le (length cell) CODE_COLUMNS ≡ is_code cell
code-graphic cell h =
    let printable = printable-graphic cell h in
    let spaces : not (list_any is_whitespace (chars cell)) ≡ true =
    not_from_false (list_any is_whitespace (chars cell)) (ap (list_any is_whitespace) (chars-printable cell printable) ∙ none-space cell h) in
    sym (ap (λ b. nat_le (text_columns cell) CODE_COLUMNS && b) spaces ∙ and-true (nat_le (text_columns cell) CODE_COLUMNS)
    ∙ ap (λ n. nat_le n CODE_COLUMNS) (printable-columns cell printable))
  where
    and-true : (b : Bool) → (b && true) ≡ b
    and-true true = refl
    and-true false = refl
