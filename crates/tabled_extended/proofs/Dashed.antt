-- The columns of a text between dashes.
use Rattle.tabled_extended.proofs.Names.{All, All-tail, Bool, IsUtf8, List, [], ap, arith, cases_lt, chars, false, inl, inr, length, map}
use Rattle.tabled_extended.proofs.Names.{max, min, nat_tests, refl, rule_behind, subst, sym, text_columns, title, ℕ, ◌++◌, ◌+◌, ◌-◌, ◌<◌}
use Rattle.tabled_extended.proofs.Names.{◌^◌, ◌∙◌, ◌∷◌, ◌≡◌, ◌≤◌}
use Rattle.std.proofs.Common.{true, cond, ◌==◌, lit<}
use Rattle.std.specs.List.{onto_first}
use Rattle.std.proofs.lemmas.List.Elements.{All-head}
use Rattle.std.proofs.lemmas.Str.{IsUtf8-encode, chars-append, encode_ascii}
use Rattle.unicode_width.specs.declared.state.State.{State}
use Rattle.unicode_width.specs.Width.{is_emoji_variation_base, past_emoji, plain, read_before, step, str_width}
use Rattle.unicode_width.proofs.Computing.{unicode_width}
use Rattle.unicode_width.proofs.Rules.{str_width-append_simple}
use Rattle.tabled_text.specs.Measure.{greatest, line_columns, lines_of}
use Rattle.tabled_text.proofs.Bridge.{begins, some_line, utf8_lines}

-- ---- a dash before a line or behind it

dash_base : is_emoji_variation_base 45 ≡ false
unfolding unicode_width
dash_base = refl

step-dash : (total : ℕ) (s : State) → (step false 45 (total, s)).0 ≡ total + 1
unfolding step past_emoji
step-dash total s = grind (arith, nat_tests, dash_base)

utf8_dash : IsUtf8 (45 ∷ [])
utf8_dash = subst IsUtf8 (encode_ascii 45 (lit< tt)) (IsUtf8-encode 45 refl)

chars-dash : chars (45 ∷ []) ≡ 45 ∷ []
unfolding unicode_width
chars-dash = refl

columns-dash : str_width false (45 ∷ []) ≡ 1
unfolding unicode_width
columns-dash = refl

-- no character joins a dash before it, whatever the line
columns-behind_dash : (line : List ℕ) → line_columns (45 ∷ line) ≡ line_columns line + 1
unfolding str_width
columns-behind_dash line =
    let read = read_before false (chars line) (0, plain) in
    ap (str_width false) (chars-append (45 ∷ []) line utf8_dash ∙ ap (λ l. l ++ chars line) chars-dash)
    ∙ step-dash read.0 read.1

columns-before_dash : (line : List ℕ) → IsUtf8 line → line_columns (line ++ 45 ∷ []) ≡ line_columns line + 1
columns-before_dash line u =
    ap (str_width false) (chars-append line (45 ∷ []) u ∙ ap (λ l. chars line ++ l) chars-dash)
    ∙ str_width-append_simple false (chars line) (45 ∷ []) refl ∙ ap (λ n. line_columns line + n) columns-dash

-- ---- the lines of a text between dashes

-- lines with a dash behind the last
abbrev with_dash : List (List ℕ) → List (List ℕ)
with_dash [] = []
with_dash (l ∷ []) = (l ++ 45 ∷ []) ∷ []
with_dash (l ∷ m ∷ ls) = l ∷ with_dash (m ∷ ls)

lines-before_dash : (text : List ℕ) → lines_of (text ++ 45 ∷ []) ≡ with_dash (lines_of text)
lines-before_dash [] = refl
lines-before_dash (c ∷ text) =
    ap (λ ls. cond (c == 10) ([] ∷ ls) (onto_first c ls)) (lines-before_dash text) ∙ by_test (c == 10) (lines_of text) (some_line text)
  where
    by_test : (b : Bool) (ls : List (List ℕ)) → 0 < length ls
        → cond b ([] ∷ with_dash ls) (onto_first c (with_dash ls)) ≡ with_dash (cond b ([] ∷ ls) (onto_first c ls))
    by_test b [] h = absurd (omega (arith, h))
    by_test true (l ∷ ls) h = refl
    by_test false (l ∷ []) h = refl
    by_test false (l ∷ m ∷ ls) h = refl

-- the columns of a line of so many and of further ones with a dash behind the last, where so many dashes stand before these
abbrev pub columns_dashed : ℕ → ℕ → List (List ℕ) → ℕ
columns_dashed before last [] = last + 1
columns_dashed before last (l ∷ ls) = max last (columns_dashed 0 (before + line_columns l) ls)

dashed-further : (l : List ℕ) (ls : List (List ℕ)) → All IsUtf8 (l ∷ ls)
    → columns_dashed 0 (0 + line_columns l) ls ≡ greatest (map line_columns (with_dash (l ∷ ls)))
dashed-further l [] u = let e = columns-before_dash l (All-head IsUtf8 l [] u) in omega arith
dashed-further l (m ∷ ls) u = let e = dashed-further m ls (All-tail IsUtf8 l (m ∷ ls) u) in omega arith

dashed-all : (l : List ℕ) (ls : List (List ℕ)) → All IsUtf8 (l ∷ ls)
    → columns_dashed 1 0 (l ∷ ls) ≡ greatest (map line_columns (onto_first 45 (with_dash (l ∷ ls))))
dashed-all l [] u =
    let e = columns-before_dash l (All-head IsUtf8 l [] u) in
    let f = columns-behind_dash (l ++ 45 ∷ []) in
    omega arith
dashed-all l (m ∷ ls) u =
    let e = dashed-further m ls (All-tail IsUtf8 l (m ∷ ls) u) in
    let f = columns-behind_dash l in
    omega arith

pub title-columns : (label : List ℕ) → IsUtf8 label → columns_dashed 1 0 (lines_of label) ≡ text_columns (title label)
title-columns label u =
    let b = begins (lines_of label) (some_line label) in
    let all : All IsUtf8 (b.first ∷ b.rest) = subst (All IsUtf8) b.parts (utf8_lines label u) in
    ap (columns_dashed 1 0) b.parts ∙ dashed-all b.first b.rest all
    ∙ sym (ap (λ ls. greatest (map line_columns (onto_first 45 ls))) (lines-before_dash label ∙ ap with_dash b.parts))

-- ---- what stands behind a title

rule_behind-none : (f v columns : ℕ) → f + 3 + v ≤ columns → rule_behind f v columns ≡ []
rule_behind-none f v columns h = grind (arith, nat_tests)

-- it is the same behind a title that is measured as far as a `usize` goes
pub rule_behind-least : (f v columns : ℕ) → f + 3 + v < 2 ^ 64 → rule_behind f v (min (2 ^ 64 - 1) columns) ≡ rule_behind f v columns
rule_behind-least f v columns h = elim (cases_lt columns (2 ^ 64)) [
  | inl l ↦ ap (rule_behind f v) (let e : min (2 ^ 64 - 1) columns ≡ columns = omega (arith, l) in e)
  | inr r ↦ rule_behind-none f v (min (2 ^ 64 - 1) columns) (omega (arith, h, r)) ∙ sym (rule_behind-none f v columns (omega (arith, h, r)))
]
