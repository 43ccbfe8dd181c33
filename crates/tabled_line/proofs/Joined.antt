-- Pieces of a line that stand apart, joined.
use Rattle.tabled_line.proofs.Names.{IsLine, List, ap, arith, flat_map, line-nil, range_with_len, subst, suc, sum_below, sym, zero, ℕ, ◌+◌}
use Rattle.tabled_line.proofs.Names.{◌<◌, ◌∙◌, ◌≡◌}
use Rattle.tabled_text.proofs.Ends.{BeginsApart, Closes, closes-append, closes-frame, frame-nil, line-begins, line-closes}
use Rattle.tabled_line.proofs.Each.{each-more}

-- pieces of which each but the first begins apart
pub each-begins : (f : ℕ → List ℕ) (w : ℕ → ℕ) (n : ℕ) → ((i : ℕ) → i < n → IsLine (f i) (w i)) → ((i : ℕ) → 0 < i → i < n → BeginsApart (f i))
    → IsLine (flat_map f (range_with_len 0 n)) (sum_below w n)
each-begins f w zero h b = line-nil
each-begins f w (suc zero) h b =
    let P : List ℕ → Type 0 = λ bs. IsLine bs (0 + w 0) in
    subst P (sym (each-more f 0)) (line-closes line-nil (h 0 (omega arith)) (closes-frame frame-nil))
each-begins f w (suc (suc n)) h b =
    let P : List ℕ → Type 0 = λ bs. IsLine bs (sum_below w (suc n) + w (suc n)) in
    let e : suc n + 1 ≡ suc (suc n) = omega arith in
    let more = sym (each-more f (suc n)) ∙ ap (λ k. flat_map f (range_with_len 0 k)) e in
    subst P more (line-begins (each-begins f w (suc n) (λ i l. h i (omega arith)) (λ i z l. b i z (omega arith))) (h (suc n) (omega arith))
    (b (suc n) (omega arith) (omega arith)))

-- pieces that each end apart
pub record IsClosedLine (text : List ℕ) (n : ℕ) : Type 0 where
  pub line : IsLine text n
  pub closes : Closes text

pub each-closes : (f : ℕ → List ℕ) (w : ℕ → ℕ) (n : ℕ) → ((i : ℕ) → i < n → IsClosedLine (f i) (w i))
    → IsClosedLine (flat_map f (range_with_len 0 n)) (sum_below w n)
each-closes f w zero h = record { line = line-nil; closes = closes-frame frame-nil }
each-closes f w (suc n) h =
    let P : List ℕ → Type 0 = λ bs. IsClosedLine bs (sum_below w n + w n) in
    let e : n + 1 ≡ suc n = omega arith in
    let more = sym (each-more f n) ∙ ap (λ k. flat_map f (range_with_len 0 k)) e in
    let before = each-closes f w n (λ i l. h i (omega arith)) in
    let own = h n (omega arith) in
    subst P more (record { line = line-closes before.line own.line before.closes; closes = closes-append before.line before.closes own.closes })
