-- What a dimension answers, place by place.
use Rattle.tabled_size.proofs.Names.{List, None, Option, Some, [], ap, arith, cases_lt, effective_sizes, false, get_or}
use Rattle.tabled_size.proofs.Names.{get_or-map-range_with_len, is_some, length, length-map-range_with_len, map, range_with_len, reached, refl}
use Rattle.tabled_size.proofs.Names.{slice_index, stored_at, suc, sym, take, true, zero, ℕ, ⊎_elim, ◌<◌, ◌∙◌, ◌∷◌, ◌≡◌, ◌≤◌}
use Rattle.std.proofs.Common.{IfSome, nat_lt, unwrap_or, min, ◌+◌}
use Rattle.std.proofs.lemmas.Bool.Decides.{nat_tests}
use Rattle.std.proofs.Math.Seq.{take-length}
use Rattle.std.proofs.lemmas.List.{ext_get_or, get_or-take, length-take}
use Rattle.tabled_size.specs.Reached.{leading}
use Rattle.tabled_size.specs.Entries.{entry}

leading_le : (sizes : List (Option ℕ)) → length (leading sizes) ≤ length sizes
leading_le [] = omega arith
leading_le (None ∷ rest) = omega arith
leading_le (Some size ∷ rest) = omega (arith, leading_le rest)

leading_entry : (sizes : List (Option ℕ)) (i : ℕ) → i < length (leading sizes) → get_or sizes i None ≡ Some (slice_index (leading sizes) i)
leading_entry [] i h = absurd (omega arith)
leading_entry (None ∷ rest) i h = absurd (omega arith)
leading_entry (Some size ∷ rest) zero h = refl
leading_entry (Some size ∷ rest) (suc i) h = leading_entry rest i (omega arith)

leading_reaches : (sizes : List (Option ℕ)) (k : ℕ) → k ≤ length sizes
    → ((i : ℕ) → i < k → is_some (get_or sizes i None) ≡ true) → k ≤ length (leading sizes)
leading_reaches sizes zero h there = omega arith
leading_reaches [] (suc k) h there = absurd (omega arith)
leading_reaches (None ∷ rest) (suc k) h there = let missing : false ≡ true = there 0 (omega arith) in cc
leading_reaches (Some size ∷ rest) (suc k) h there = omega (arith, leading_reaches rest k (omega arith) (λ i lt. there (suc i) (omega arith)))

leading_ends : (sizes : List (Option ℕ)) (i : ℕ) → get_or sizes i None ≡ None → length (leading sizes) ≤ i
leading_ends [] i h = omega arith
leading_ends (None ∷ rest) i h = omega arith
leading_ends (Some size ∷ rest) zero h = let missing : Some size ≡ None = h in cc
leading_ends (Some size ∷ rest) (suc i) h = omega (arith, leading_ends rest i h)

answer : (f : ℕ → Option ℕ) (count i : ℕ) → i < count → get_or (map f (range_with_len 0 count)) i None ≡ f i
answer f count i h = get_or-map-range_with_len f 0 count i i None h (omega arith)

-- no more sizes than places
pub reached_le : (f : ℕ → Option ℕ) (count : ℕ) → length (reached f count) ≤ count
unfolding reached
reached_le f count = omega (arith, leading_le (map f (range_with_len 0 count)), length-map-range_with_len f 0 count)

-- the size at a place that is reached
pub reached_at : (f : ℕ → Option ℕ) (count i : ℕ) → i < length (reached f count) → f i ≡ Some (slice_index (reached f count) i)
unfolding reached
reached_at f count i h =
    sym (answer f count i (omega (arith, leading_le (map f (range_with_len 0 count)), length-map-range_with_len f 0 count)))
    ∙ leading_entry (map f (range_with_len 0 count)) i h

-- places whose sizes are there are reached
pub reached_so : (f : ℕ → Option ℕ) (count k : ℕ) → k ≤ count → ((i : ℕ) → i < k → is_some (f i) ≡ true) → k ≤ length (reached f count)
unfolding reached
reached_so f count k h there =
    leading_reaches (map f (range_with_len 0 count)) k (omega (arith, length-map-range_with_len f 0 count))
    (λ i lt. ap is_some (answer f count i (omega arith)) ∙ there i lt)

-- so are all where those are that a dimension doesn't say to be like an earlier one
pub reached_alike : (f : ℕ → Option ℕ) (count : ℕ) (o : Option ℕ) (n : ℕ) → IfSome o (λ from. (column : ℕ) → from ≤ column → f column ≡ f from)
    → min count (unwrap_or o count + 1) ≤ n → ((i : ℕ) → i < n → is_some (f i) ≡ true) → count ≤ length (reached f count)
reached_alike f count None n alike least there =
    let all : min count (count + 1) ≤ n = least in reached_so f count count (omega arith) (λ i lt. there i (omega arith))
reached_alike f count (Some from) n alike least there =
    let some : min count (from + 1) ≤ n = least in
    reached_so f count count (omega arith) (λ i lt. ⊎_elim
    (λ (l : i < n). there i l)
    (λ (l : n ≤ i). ap is_some (alike i (omega arith)) ∙ there from (omega arith))
    (cases_lt i n))

-- and none from one on whose size isn't
pub reached_none : (f : ℕ → Option ℕ) (count i : ℕ) → i < count → f i ≡ None → length (reached f count) ≤ i
unfolding reached
reached_none f count i h none = leading_ends (map f (range_with_len 0 count)) i (answer f count i h ∙ none)

entry_there : (sizes : List ℕ) (i : ℕ) → i < length sizes → entry sizes i ≡ Some (slice_index sizes i)
entry_there sizes i h = let e : nat_lt i (length sizes) ≡ true = grind (arith, nat_tests) in rw e refl

entry_missing : (sizes : List ℕ) (i : ℕ) → length sizes ≤ i → entry sizes i ≡ None
entry_missing sizes i h = let e : nat_lt i (length sizes) ≡ false = grind (arith, nat_tests) in rw e refl

stored_no_more : (sizes : List ℕ) (count : ℕ) → length (reached (stored_at (Some sizes)) count) ≤ length sizes
stored_no_more sizes count = ⊎_elim
    (λ lt. reached_none (stored_at (Some sizes)) count (length sizes) lt (entry_missing sizes (length sizes) (omega arith)))
    (λ le. omega (arith, reached_le (stored_at (Some sizes)) count)) (cases_lt (length sizes) count)

stored_long : (sizes : List ℕ) (count : ℕ) → length (reached (stored_at (Some sizes)) count) ≡ min count (length sizes)
stored_long sizes count =
    let most = stored_no_more sizes count in
    let le = reached_le (stored_at (Some sizes)) count in
    let least = reached_so (stored_at (Some sizes)) count (min count (length sizes)) (omega arith)
    (λ i lt. ap is_some (entry_there sizes i (omega arith))) in
    omega arith

same_some : {m n : ℕ} → Some m ≡ Some n → m ≡ n
same_some h = cc

-- a stored list is reached as far as the table goes
pub reached_stored : (sizes : List ℕ) (count : ℕ) → reached (stored_at (Some sizes)) count ≡ take count sizes
reached_stored sizes count =
    let f = stored_at (Some sizes) in
    let long : length (reached f count) ≡ min count (length sizes) = stored_long sizes count in
    ext_get_or 0 (reached f count) (take count sizes) (long ∙ sym (length-take count sizes))
    (λ i lt.
    let there : i < length sizes = omega arith in
    let inside : i < count = omega arith in
    same_some (sym (reached_at f count i lt) ∙ entry_there sizes i there) ∙ sym (get_or-take count sizes i 0 inside))

-- what stands where a list is stored, or filled in with estimates that go as far as the table
pub reached_filled : (stored : Option (List ℕ)) (estimates : List ℕ) (count : ℕ) → length estimates ≡ count
    → reached (stored_at (Some (unwrap_or stored estimates))) count ≡ effective_sizes stored estimates count
reached_filled None estimates count h = reached_stored estimates count ∙ ap (λ n. take n estimates) (sym h) ∙ take-length estimates
reached_filled (Some sizes) estimates count h = reached_stored sizes count

-- what stands where a list is stored
pub reached_effective : (stored : Option (List ℕ)) (estimates : List ℕ) (count : ℕ) → is_some stored ≡ true
    → reached (stored_at stored) count ≡ effective_sizes stored estimates count
reached_effective None estimates count h = let missing : false ≡ true = h in cc
reached_effective (Some sizes) estimates count h = reached_stored sizes count

pub reached_there : (f : ℕ → Option ℕ) (count i : ℕ) → i < length (reached f count) → is_some (f i) ≡ true
reached_there f count i h = ap is_some (reached_at f count i h)

pub reached_size : (f : ℕ → Option ℕ) (count i n : ℕ) → i < length (reached f count) → Some n ≡ f i → n ≡ slice_index (reached f count) i
reached_size f count i n h e = same_some (e ∙ reached_at f count i h)

pub reached_is : (f : ℕ → Option ℕ) (count i : ℕ) → i < length (reached f count) → Some (slice_index (reached f count) i) ≡ f i
reached_is f count i h = sym (reached_at f count i h)

missing : (o : Option ℕ) → is_some o ≡ false → o ≡ None
missing None h = refl
missing (Some n) h = let there : true ≡ false = h in cc

-- a place whose size isn't there ends them
pub missing_at : (f : ℕ → Option ℕ) (count i : ℕ) → i < count → is_some (f i) ≡ false → length (reached f count) < count
missing_at f count i h none = omega (arith, reached_none f count i h (missing (f i) none))
