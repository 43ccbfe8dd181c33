-- Whether something was cut off a text.
use Rattle.tabled_extended.proofs.Names.{IsTruncated, IsUtf8, List, OnErr, [], ap, append-nil, append_assoc, arith, chars, false≢true}
use Rattle.tabled_extended.proofs.Names.{length, length-append, length_push, max, refl, subst, suc, sym, take, zero, ℕ, ◌++◌, ◌+◌, ◌-◌, ◌<◌}
use Rattle.tabled_extended.proofs.Names.{◌∙◌, ◌∷◌, ◌≡◌, ◌≤◌}
use Rattle.std.proofs.Common.{replicate}
use Rattle.std.specs.Prelude.{Result, Ok, Err, IsErr}
use Rattle.std.proofs.lemmas.List.{append_cancel_left, length-replicate, nil_from_length, take_at}
use Rattle.std.proofs.lemmas.Str.{encodes-chars}
use Rattle.std.proofs.Math.Utf8.{encodes}
use Rattle.tabled_text.specs.Cut.{IsCut, IsLongestReached, IsReached, NeedsFill, last_line, missing_columns}
use Rattle.tabled_text.specs.Measure.{char_count, count_of}
use Rattle.tabled_text.proofs.CutLemmas.{IsReached-push}
use Rattle.tabled_text.proofs.WrapRoom.{plain_replacement}
use Rattle.tabled_extended.specs.Truncated.{TakesMemory, ending}

pub mark_counts : char_count 0xFFFD ≡ 1
mark_counts = ap (λ n. max 1 n) plain_replacement.1

-- U+FFFD fits where a column is left, so it is never what was dropped
fits_too : (n : ℕ) (text front rest : List ℕ) (c : ℕ) → char_count 0xFFFD ≡ 1 → IsLongestReached n text front (c ∷ rest) → c ≡ 0xFFFD
    → 0 < n - count_of (last_line front) → ⊥
fits_too n text front rest c one h e room =
    let some : char_count c ≡ 1 = ap char_count e ∙ one in
    let apart : c ≡ 10 → ⊥ = λ f. absurd (omega (arith, e, f)) in
    let low : count_of (last_line front) < n = omega arith in
    let fits : count_of (last_line front) + char_count c ≤ n = omega (arith, some) in
    let more : IsReached n (front ++ c ∷ []) = IsReached-push n front c apart h.reached low fits in
    let long : length (front ++ c ∷ []) ≡ length front + 1 = length_push front c in
    let whole : text ≡ (front ++ c ∷ []) ++ rest = h.parts ∙ sym (append_assoc front (c ∷ []) rest) in
    let first : take (length front + 1) text ≡ front ++ c ∷ [] =
    ap (take (length front + 1)) whole ∙ take_at (front ++ c ∷ []) rest (length front + 1) long in
    let within : length front + 1 ≤ length text = omega (arith, ap length whole, length-append (front ++ c ∷ []) rest, long) in
    let least : length front + 1 ≤ length front = h.longest (length front + 1) within (subst (IsReached n) (sym first) more) in
    absurd (omega (arith, least))

marks_alone : (n : ℕ) (text front rest : List ℕ) (k : ℕ) → char_count 0xFFFD ≡ 1 → IsLongestReached n text front rest
    → k ≡ missing_columns n front rest → rest ≡ replicate k 0xFFFD → rest ≡ []
marks_alone n text front [] k one h m e = refl
marks_alone n text front (c ∷ rest) zero one h m e = absurd (omega (arith, ap length e))
marks_alone n text front (c ∷ rest) (suc k) one h m e =
    let same : c ≡ 0xFFFD = cc e in
    absurd (fits_too n text front rest c one h same (omega (arith, m)))

-- a text that is its own cut is whole
pub uncut : (n : ℕ) (text piece : List ℕ) → char_count 0xFFFD ≡ 1 → (cut : IsCut n text piece) → piece ≡ text → cut.rest ≡ []
uncut n text piece one cut e =
    let k = missing_columns n cut.front cut.rest in
    let both : cut.front ++ cut.rest ≡ cut.front ++ replicate k 0xFFFD = sym cut.longest.parts ∙ ap chars (sym e) ∙ cut.characters in
    marks_alone n (chars text) cut.front cut.rest k one cut.longest refl (append_cancel_left cut.front cut.rest (replicate k 0xFFFD) both)

whole_piece : (n : ℕ) (text front rest : List ℕ) (piece : List ℕ) → IsUtf8 text → IsUtf8 piece → chars text ≡ front ++ rest
    → chars piece ≡ front ++ replicate (missing_columns n front rest) 0xFFFD → length rest ≡ 0 → piece ≡ text
whole_piece n text front [] piece u v e f z = sym (encodes-chars piece v) ∙ ap encodes (f ∙ sym e) ∙ encodes-chars text u
whole_piece n text front (c ∷ rest) piece u v e f z = absurd (omega (arith, z))

some_off : (n : ℕ) (text piece : List ℕ) → IsUtf8 text → (cut : IsCut n text piece) → (piece ≡ text → ⊥) → (k : ℕ) → length cut.rest ≡ k → 0 < k
some_off n text piece u cut other zero z = absurd (other (whole_piece n text cut.front cut.rest piece u cut.utf8 cut.longest.parts cut.characters z))
some_off n text piece u cut other (suc k) z = omega arith

-- of a text that isn't its own cut something is cut off
pub cut_off : (n : ℕ) (text piece : List ℕ) → IsUtf8 text → (cut : IsCut n text piece) → (piece ≡ text → ⊥) → 0 < length cut.rest
cut_off n text piece u cut other = some_off n text piece u cut other (length cut.rest) refl

pub ending-off : (suffix off : List ℕ) → 0 < length off → ending suffix off ≡ suffix
ending-off suffix [] h = absurd (omega (arith, h))
ending-off suffix (c ∷ off) h = refl

-- the text stays of which nothing was cut off
pub truncated_whole : (suffix : List ℕ) (n : ℕ) (text piece : List ℕ) → char_count 0xFFFD ≡ 1 → (cut : IsCut n text piece) → piece ≡ text
    → IsTruncated suffix n text text
truncated_whole suffix n text piece one cut e = record {
  piece = piece;
  cut = cut;
  answered = sym e ∙ sym (append-nil piece) ∙ ap (λ off. piece ++ ending suffix off) (sym (uncut n text piece one cut e));
}

pub truncated_off : (suffix : List ℕ) (n : ℕ) (text piece answer : List ℕ) → IsUtf8 text → (cut : IsCut n text piece) → (piece ≡ text → ⊥)
    → answer ≡ piece ++ suffix → IsTruncated suffix n text answer
truncated_off suffix n text piece answer u cut other e = record {
  piece = piece;
  cut = cut;
  answered = e ∙ ap (λ end. piece ++ end) (sym (ending-off suffix cut.rest (cut_off n text piece u cut other)));
}

-- what memory was refused for
some_filled : (n : ℕ) (front rest : List ℕ) → 0 < missing_columns n front rest → 0 < length rest
some_filled n front [] h = absurd (omega (arith, h))
some_filled n front (c ∷ rest) h = omega arith

pub takes-filled : (suffix : List ℕ) (n : ℕ) (text : List ℕ) → NeedsFill n text → TakesMemory suffix n text
takes-filled suffix n text h = record {
  front = h.front;
  off = h.rest;
  longest = h.longest;
  some_off = some_filled n h.front h.rest h.missing;
  some_left = let m = h.missing in omega (arith, m);
}

some_characters : (n : ℕ) (text piece : List ℕ) → (cut : IsCut n text piece) → (k : ℕ) → length cut.front + missing_columns n cut.front cut.rest ≡ k
    → 0 < length piece → 0 < k
some_characters n text piece cut zero z h =
    let m = missing_columns n cut.front cut.rest in
    let none : length (chars piece) ≡ 0 =
    ap length cut.characters ∙ length-append cut.front (replicate m 0xFFFD) ∙ ap (λ j. length cut.front + j) (length-replicate m 0xFFFD) ∙ z in
    let empty : piece ≡ [] = sym (encodes-chars piece cut.utf8) ∙ ap encodes (nil_from_length (chars piece) none) in
    absurd (omega (arith, h, ap length empty))
some_characters n text piece cut (suc k) z h = omega arith

left_over : (p s f m : ℕ) → 0 < p + s → (0 < p → 0 < f + m) → 0 < f + (m + s)
left_over zero s f m h k = omega (arith, h)
left_over (suc p) s f m h k = let some = k (omega arith) in omega (arith, some)

pub takes-left : (suffix : List ℕ) (n : ℕ) (text piece : List ℕ) → IsUtf8 text → (cut : IsCut n text piece) → (piece ≡ text → ⊥)
    → 0 < length piece + length suffix → TakesMemory suffix n text
takes-left suffix n text piece u cut other some = record {
  front = cut.front;
  off = cut.rest;
  longest = cut.longest;
  some_off = cut_off n text piece u cut other;
  some_left = left_over (length piece) (length suffix) (length cut.front) (missing_columns n cut.front cut.rest) some
      (some_characters n text piece cut (length cut.front + missing_columns n cut.front cut.rest) refl);
}

-- what holds where a call was refused
pub err-with : {T E P : Type 0} (r : Result T E) → P → IsErr r → OnErr r P
err-with (Ok x) p h = absurd (false≢true h)
err-with (Err e) p h = p
