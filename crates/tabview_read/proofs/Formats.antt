-- The ending of a path.
use Rattle.std.specs.Prelude.{◌==◌, MatchOption, if◌then◌else◌, option_map}
use Rattle.std.proofs.Common.{◌≡◌, ◌≢◌, ◌<◌, ◌∙◌, ◌++◌, ◌∷◌, [], ℕ, false, List, Option, Some, None, suc, ap, arith, drop, get_or, inl, inr, length, lit<, refl, sym, take}
use Rattle.std.specs.Borrow.{Bor}
use Rattle.std.specs.Option.{option_or}
use Rattle.std.specs.Str.{NoCharPasses}
use Rattle.std.specs.Str.Pattern.{RFindsChar, SplitsAroundMatch}
use Rattle.std.proofs.lemmas.Bool.Decides.{eqb_tells}
use Rattle.std.proofs.lemmas.List.{take-append-drop}
use Rattle.std.proofs.lemmas.Str.Pattern.{NoCharPasses-char, drop_at_char}
use Rattle.tabview_read.specs.Formats.{ending_of}

-- a path without a dot has no ending
no-ending : (path : List ℕ) → ((i : ℕ) → i < length path → get_or path i 0 ≢ 46)
    → ending_of path ≡ None
no-ending [] none = refl
no-ending (byte ∷ path) none =
    let head : (byte == 46) ≡ false = elim (eqb_tells byte 46) [
      | inl is ↦ absurd (none 0 (omega arith) is.1)
      | inr other ↦ other.0
    ] in
    let rest = no-ending path (λ i h. none (suc i) (omega arith)) in
    ap (λ o. option_or o (if byte == 46 then Some path else None)) rest
    ∙ ap (λ b. if b then Some path else None) head

after-dot : (front back : List ℕ) → ending_of back ≡ None
    → ending_of (front ++ 46 ∷ back) ≡ Some back
after-dot [] back none = ap (λ o. option_or o (Some back)) none
after-dot (byte ∷ front) back none =
    ap (λ o. option_or o (if byte == 46 then Some (front ++ 46 ∷ back) else None))
    (after-dot front back none)

free-of-dots : (path : List ℕ) → NoCharPasses (λ d. d == 46) path → ending_of path ≡ None
free-of-dots path none = no-ending path (λ i h. NoCharPasses-char 46 path i none (lit< tt) h)

-- the ending of a path is what comes behind its last dot
pub last-ending : (path : List ℕ) (parts : Option (Bor (List ℕ) × Bor (List ℕ)))
    → MatchOption parts (RFindsChar 46 path None)
    (λ x. SplitsAroundMatch (RFindsChar 46) path x.0.now x.1.now)
    → ending_of path ≡ option_map (λ x. x.1.now) parts
last-ending path None none = free-of-dots path none
last-ending path (Some (front, back)) (i, j, finds, before, after, low, size, rest) =
    let behind = drop_at_char 46 path i j finds.1 (lit< tt) in
    ap ending_of (sym (take-append-drop i path) ∙ ap (λ l. take i path ++ l) behind)
    ∙ after-dot (take i path) (drop j path) (free-of-dots (drop j path) finds.0)
    ∙ ap Some (sym after)
