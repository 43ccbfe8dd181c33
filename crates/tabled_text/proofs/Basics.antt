-- Used throughout: cases of a test, and lists of which all elements pass one.
use Rattle.tabled_text.proofs.Names.{Bool, List, [], and_from, and_parts, ap, cond, drop, false, list_all, list_all-append, refl, replicate}
use Rattle.tabled_text.proofs.Names.{suc, sym, take, take-append-drop, true, zero, ℕ, ◌++◌, ◌∙◌, ◌∷◌, ◌≡◌}

-- what holds of both values holds of the one that a test picks
pub cond-cases : {A : Type 0} (P : A → Type 0) (b : Bool) (x y : A) → (b ≡ true → P x) → (b ≡ false → P y) → P (cond b x y)
cond-cases P true x y f g = f refl
cond-cases P false x y f g = g refl

-- what follows from each of two values follows from the one that a test picks, for what it picks elsewhere
pub cond-both : {A B : Type 0} (P : A → Type 0) (Q : B → Type 0) (b : Bool) (x y : A) (u v : B) → (b ≡ true → P x → Q u)
    → (b ≡ false → P y → Q v) → P (cond b x y) → Q (cond b u v)
cond-both P Q true x y u v f g h = f refl h
cond-both P Q false x y u v f g h = g refl h

pub all-halves : (test : ℕ → Bool) (xs ys : List ℕ) → list_all test (xs ++ ys) ≡ true
    → (list_all test xs ≡ true) × (list_all test ys ≡ true)
all-halves test xs ys h = and_parts (list_all test xs) (list_all test ys) (sym (list_all-append test xs ys) ∙ h)

pub all-parts : (test : ℕ → Bool) (n : ℕ) (xs : List ℕ) → list_all test xs ≡ true
    → (list_all test (take n xs) ≡ true) × (list_all test (drop n xs) ≡ true)
all-parts test n xs h = all-halves test (take n xs) (drop n xs) (ap (list_all test) (take-append-drop n xs) ∙ h)

pub all-weaker : (p q : ℕ → Bool) → ((c : ℕ) → p c ≡ true → q c ≡ true) → (cs : List ℕ) → list_all p cs ≡ true → list_all q cs ≡ true
all-weaker p q f [] h = refl
all-weaker p q f (c ∷ cs) h =
    let parts = and_parts (p c) (list_all p cs) h in
    and_from (q c) (list_all q cs) (f c parts.0) (all-weaker p q f cs parts.1)

pub every : (cs : List ℕ) → list_all (λ c. true) cs ≡ true
every [] = refl
every (c ∷ cs) = every cs

pub list_all-copies : (q : ℕ → Bool) (c k : ℕ) → q c ≡ true → list_all q (replicate k c) ≡ true
list_all-copies q c zero h = refl
list_all-copies q c (suc k) h = and_from (q c) (list_all q (replicate k c)) h (list_all-copies q c k h)
