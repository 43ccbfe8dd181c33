-- Texts that are narrowed line by line, and pieces that are appended one after another.
use Rattle.std.proofs.Common.{Bool, List, [], ap, append-nil, append_assoc, arith, encode_utf8, encode_utf8_all, false, refl, replicate, subst, suc, sym, true, zero, ℕ, ◌++◌, ◌-◌, ◌<◌, ◌∙◌, ◌∷◌, ◌≡◌, ◌≤◌}
use Rattle.std.proofs.lemmas.List.Elements.{AllZip-push}
use Rattle.std.specs.List.{AllZip, join_with_byte}
use Rattle.tabled_line.proofs.Leading.{lines_after-append, lines_after-joined}
use Rattle.tabled_line.specs.Fill.{fill}
use Rattle.tabled_line.specs.Leading.{begun_after, break, lines_after}
use Rattle.tabled_text.specs.Cut.{NeedsFill, missing_columns}
use Rattle.tabled_text.specs.Measure.{lines_of}
use Rattle.tabview_records.specs.Narrowed.{IsNarrowedLine, IsNarrowedText, IsWholeCut}

pub fill_copies : (n c : ℕ) → encode_utf8_all (replicate n c) ≡ fill c n
fill_copies zero c = refl
fill_copies (suc n) c = ap (λ u. encode_utf8 c ++ u) (fill_copies n c)

pub begun-push : (b : Bool) (xs : List (List ℕ)) (x : List ℕ) → begun_after b (xs ++ x ∷ []) ≡ true
begun-push b [] x = refl
begun-push b (y ∷ ys) x = refl

pub lines_after-push : (b : Bool) (xs : List (List ℕ)) (x : List ℕ)
    → lines_after b (xs ++ x ∷ []) ≡ lines_after b xs ++ (break (begun_after b xs) ++ x)
lines_after-push b xs x = lines_after-append b xs (x ∷ []) ∙ ap (λ u. lines_after b xs ++ (break (begun_after b xs) ++ u)) (append-nil x)

-- ---- line by line

-- some lines are narrowed, and others are left
pub record NarrowedSoFar (by : Bool) (n : ℕ) (text : List ℕ) (left : List (List ℕ)) (out : List ℕ) (begun : Bool) : Type 0 where
  pub done : List (List ℕ)
  pub parts : List (List ℕ)
  pub whole : done ++ left ≡ lines_of text
  pub each : AllZip (IsNarrowedLine by n) done parts
  pub out_is : out ≡ lines_after false parts
  pub begun_is : begun ≡ begun_after false parts

pub narrowed-none : (by : Bool) (n : ℕ) (text : List ℕ) (left : List (List ℕ)) (out : List ℕ) → left ≡ lines_of text → out ≡ []
    → NarrowedSoFar by n text left out false
narrowed-none by n text left out e o = record { done = []; parts = []; whole = e; each = tt; out_is = o; begun_is = refl }

pub narrowed-more : (by : Bool) (n : ℕ) (text : List ℕ) (before left : List (List ℕ)) (out : List ℕ) (begun : Bool) (line shown next : List ℕ)
    → NarrowedSoFar by n text before out begun → before ≡ line ∷ left → IsNarrowedLine by n line shown
    → next ≡ (out ++ break begun) ++ shown → NarrowedSoFar by n text left next true
narrowed-more by n text before left out begun line shown next h b s e = record {
  done = h.done ++ line ∷ [];
  parts = h.parts ++ shown ∷ [];
  whole = append_assoc h.done (line ∷ []) left ∙ ap (λ u. h.done ++ u) (sym b) ∙ h.whole;
  each = AllZip-push (IsNarrowedLine by n) h.done h.parts line shown h.each s;
  out_is =
      e ∙ append_assoc out (break begun) shown ∙ ap (λ o. o ++ (break begun ++ shown)) h.out_is
      ∙ ap (λ b. lines_after false h.parts ++ (break b ++ shown)) h.begun_is ∙ sym (lines_after-push false h.parts shown);
  begun_is = sym (begun-push false h.parts shown);
}

pub narrowed-all : (by : Bool) (n : ℕ) (text : List ℕ) (left : List (List ℕ)) (out : List ℕ) (begun : Bool)
    → NarrowedSoFar by n text left out begun → left ≡ [] → IsNarrowedText by n text out
narrowed-all by n text left out begun h e =
    let all : h.done ≡ lines_of text = sym (append-nil h.done) ∙ ap (λ l. h.done ++ l) (sym e) ∙ h.whole in
    record {
      parts = h.parts;
      each = subst (λ ls. AllZip (IsNarrowedLine by n) ls h.parts) all h.each;
      joined = h.out_is ∙ lines_after-joined h.parts;
    }

-- ---- cuts between characters

no_missing : (front rest : List ℕ) → missing_columns 0 front rest ≡ 0
no_missing front [] = refl
no_missing front (c ∷ rest) = omega arith

-- a line can be cut to no column
pub unfilled : (line : List ℕ) → NeedsFill 0 line → ⊥
unfilled line h = let some = h.missing in let none = no_missing h.front h.rest in absurd (omega (arith, some, none))
