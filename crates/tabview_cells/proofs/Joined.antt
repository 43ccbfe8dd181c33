-- The kind of a column with one more cell.
use Rattle.std.proofs.Common.{Bool, List, [], ◌∷◌, ap, arith, cond, eqb-true, false, length, refl, sym, true, ℕ, ◌&&◌, ◌||◌, ◌==◌, ◌∙◌, ◌≡◌, ⊎_elim}
use Rattle.std.specs.Char.{is_ascii_digit}
use Rattle.std.proofs.lemmas.Bool.{and_from, and_parts, cases_Bool, cond-false, cond-true}
use Rattle.std.proofs.lemmas.Bool.Decides.{nat_tests}
use Rattle.tabview_cells.specs.Dates.{is_date}
use Rattle.tabview_cells.specs.Kinds.{is_code, joined, kind_of}
use Rattle.tabview_cells.specs.Numbers.{begins_with_digit, is_digits, is_number, is_sign, is_suffix, skip_digits, skip_fraction, skip_whole}
use Rattle.tabview_cells.specs.declared.kinds.Kind.{Kind}
use Rattle.tabview_cells.specs.declared.kinds.Kind.TheVariants.{Code, Date, Empty, Number, Text}

-- text stays text
pub joined-text : (kind : Kind) → joined Text kind ≡ Text
joined-text Empty = refl
joined-text Number = refl
joined-text Date = refl
joined-text Code = refl
joined-text Text = refl

-- the kind of a cell, by the tests of what it is
kind_by : Bool → Bool → Bool → Bool → Kind
kind_by none number date code = cond none Empty (cond number Number (cond date Date (cond code Code Text)))

joined-number : (none date code : Bool) → joined Number (kind_by none true date code) ≡ Number
unfolding kind_by
joined-number true date code = refl
joined-number false date code = refl

pub with-number : (cell : List ℕ) → is_number cell ≡ true → joined Number (kind_of cell) ≡ Number
unfolding kind_by
with-number cell e =
    ap (λ number. joined Number (kind_by (length cell == 0) number (is_date cell) (is_code cell))) e
    ∙ joined-number (length cell == 0) (is_date cell) (is_code cell)

joined-code : (none number date : Bool) → joined Code (kind_by none number date true) ≡ Code
unfolding kind_by
joined-code true number date = refl
joined-code false true date = refl
joined-code false false true = refl
joined-code false false false = refl

pub with-code : (cell : List ℕ) → is_code cell ≡ true → joined Code (kind_of cell) ≡ Code
unfolding kind_by
with-code cell e =
    ap (λ code. joined Code (kind_by (length cell == 0) (is_number cell) (is_date cell) code)) e
    ∙ joined-code (length cell == 0) (is_number cell) (is_date cell)

-- ---- digits alone are a number
digit-sign : (c : ℕ) → is_ascii_digit c ≡ true → is_sign c ≡ false
digit-sign c h = grind (arith, nat_tests)

whole-digits : (text : List ℕ) → (length (skip_digits text) == 0) ≡ true → skip_whole text ≡ []
whole-digits [] h = refl
whole-digits (c ∷ cs) h = ⊎_elim
    (λ e. cond-true (is_ascii_digit c || (c == 44 && begins_with_digit cs)) (skip_whole cs) (c ∷ cs) (ap (λ b. b || (c == 44 && begins_with_digit cs)) e)
    ∙ whole-digits cs (ap (λ l. length l == 0) (sym (cond-true (is_ascii_digit c) (skip_digits cs) (c ∷ cs) e)) ∙ h))
    (λ e. absurd (some-left c cs (ap (λ l. length l == 0) (sym (cond-false (is_ascii_digit c) (skip_digits cs) (c ∷ cs) e)) ∙ h)))
    (cases_Bool (is_ascii_digit c))
  where
    some-left : (c : ℕ) (cs : List ℕ) → (length (c ∷ cs) == 0) ≡ true → ⊥
    some-left c cs h = let e : length (c ∷ cs) ≡ 0 = eqb-true (length (c ∷ cs)) 0 h in omega arith

pub number-digits : (text : List ℕ) → is_digits text ≡ true → is_number text ≡ true
number-digits [] h = h
number-digits (c ∷ cs) h =
    let text = c ∷ cs in
    let parts = and_parts (begins_with_digit text) (length (skip_digits text) == 0) h in
    ap (λ s. begins_with_digit s && is_suffix (skip_fraction (skip_whole s))) (cond-false (is_sign c) cs text (digit-sign c parts.0))
    ∙ and_from (begins_with_digit text) (is_suffix (skip_fraction (skip_whole text))) parts.0 (ap (λ s. is_suffix (skip_fraction s)) (whole-digits text parts.1))
