-- Of the beginnings of a text that are reached only one is the longest, so that it is cut in one way.
use Rattle.tabled_text.proofs.Names.{IsCut, IsLongestReached, IsParted, IsReached, List, ap, arith, chars, drop, drop_at, encode_utf8_all}
use Rattle.tabled_text.proofs.Names.{encodes-chars, length, length-append, missing_columns, refl, replicate, subst, sym, take, take_at, ℕ}
use Rattle.tabled_text.proofs.Names.{◌++◌, ◌∙◌, ◌≡◌, ◌≤◌}
use Rattle.tabled_text.specs.Cut.{NeedsFill}

-- no other one is longer
not_longer : (n : ℕ) (text front rest front' rest' : List ℕ) → IsLongestReached n text front rest → IsLongestReached n text front' rest'
    → length front ≤ length front'
not_longer n text front rest front' rest' one other =
    let taken : take (length front) text ≡ front = ap (take (length front)) one.parts ∙ take_at front rest (length front) refl in
    let whole = ap length one.parts ∙ length-append front rest in
    other.longest (length front) (omega arith) (subst (IsReached n) (sym taken) one.reached)

-- two of them are the same, and so is what follows
same_front : (n : ℕ) (text front rest front' rest' : List ℕ) → IsLongestReached n text front rest → IsLongestReached n text front' rest'
    → length front ≡ length front'
same_front n text front rest front' rest' one other =
    let less = not_longer n text front rest front' rest' one other in
    let more = not_longer n text front' rest' front rest other one in
    omega arith

taken_front : (n : ℕ) (text front rest : List ℕ) → IsLongestReached n text front rest → take (length front) text ≡ front
taken_front n text front rest one = ap (take (length front)) one.parts ∙ take_at front rest (length front) refl

dropped_front : (n : ℕ) (text front rest : List ℕ) → IsLongestReached n text front rest → drop (length front) text ≡ rest
dropped_front n text front rest one = ap (drop (length front)) one.parts ∙ drop_at front rest (length front) refl

same_fronts : (n : ℕ) (text front rest front' rest' : List ℕ) → IsLongestReached n text front rest → IsLongestReached n text front' rest'
    → front ≡ front'
same_fronts n text front rest front' rest' one other =
    sym (taken_front n text front rest one) ∙ ap (λ k. take k text) (same_front n text front rest front' rest' one other) ∙ taken_front n text front' rest' other

-- as many columns are left behind each
same_missing : (n : ℕ) (text front rest front' rest' : List ℕ) → IsLongestReached n text front rest → IsLongestReached n text front' rest'
    → missing_columns n front rest ≡ missing_columns n front' rest'
same_missing n text front rest front' rest' one other =
    let same = same_front n text front rest front' rest' one other in
    let fronts = same_fronts n text front rest front' rest' one other in
    let rests : rest ≡ rest' = sym (dropped_front n text front rest one) ∙ ap (λ k. drop k text) same ∙ dropped_front n text front' rest' other in
    ap (λ f. missing_columns n f rest) fronts ∙ ap (missing_columns n front') rests

-- where no column is left, no U+FFFD is wanted
pub no_fill : {n : ℕ} {text front after : List ℕ} → IsParted n (chars text) front 0 after → NeedsFill n text → ⊥
no_fill {n} {text} {front} parted needs =
    let same = same_missing n (chars text) front parted.rest needs.front needs.rest parted.longest needs.longest in
    let none = parted.columns in
    let some = needs.missing in
    omega arith

-- two cut texts are the same
pub cut-once : {n : ℕ} {text answer answer' : List ℕ} → IsCut n text answer → IsCut n text answer' → answer ≡ answer'
cut-once {n} {text} {answer} {answer'} one other =
    let fronts = same_fronts n (chars text) one.front one.rest other.front other.rest one.longest other.longest in
    let missing = same_missing n (chars text) one.front one.rest other.front other.rest one.longest other.longest in
    let characters : chars answer ≡ chars answer' =
    one.characters ∙ ap (λ f. f ++ replicate (missing_columns n one.front one.rest) 0xFFFD) fronts ∙ ap (λ k. other.front ++ replicate k 0xFFFD) missing
    ∙ sym other.characters in
    sym (encodes-chars answer one.utf8) ∙ ap encode_utf8_all characters ∙ encodes-chars answer' other.utf8
