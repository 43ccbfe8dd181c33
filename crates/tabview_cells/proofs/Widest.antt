-- The widest of the columns that can give, over the first columns.
use Rattle.std.proofs.Common.{◌≡◌, ℕ, ◌+◌, ◌<◌, ◌≤◌, List, MatchOption, Option, None, Some, refl, sym, subst, arith, ⊎_elim, length}
use Rattle.std.proofs.lemmas.Bool.{cases_lt}
use Rattle.std.proofs.lemmas.List.{get_or_past}
use Rattle.tabled_priority.specs.Permitted.{at}
use Rattle.tabview_cells.specs.Fitted.{CanGive, NoneGives, IsWidest}

-- none of the first n columns can give
pub record NoneBelow (floors values mins : List ℕ) (n : ℕ) : Type 0 where
  pub none : (j : ℕ) → j < n → CanGive floors values mins j → ⊥

-- of the first n columns that can give, b is the widest
pub record WidestBelow (floors values mins : List ℕ) (n b : ℕ) : Type 0 where
  pub gives : CanGive floors values mins b
  pub widest : (j : ℕ) → j < n → CanGive floors values mins j → at values j ≤ at values b

-- the best so far, and its size
abbrev pub BestBelow : List ℕ → List ℕ → List ℕ → ℕ → Option ℕ → ℕ → Type 0
BestBelow floors values mins n best most =
    MatchOption best (NoneBelow floors values mins n × (most ≡ 0)) (λ b. WidestBelow floors values mins n b × (most ≡ at values b))

-- a column that can give is the best where it is as wide as the best so far
pub BestBelow-more : (floors values mins : List ℕ) (n : ℕ) (best : Option ℕ) (most : ℕ) → BestBelow floors values mins n best most
    → CanGive floors values mins n → most ≤ at values n → BestBelow floors values mins (n + 1) (Some n) (at values n)
BestBelow-more floors values mins n None most b gives wide = (
  record {
    gives = gives;
    widest = λ j less other. ⊎_elim (λ before. absurd (b.0.none j before other))
        (λ past. let e : j ≡ n = omega arith in subst (λ k. at values k ≤ at values n) (sym e) (omega arith)) (cases_lt j n);
  },
  refl,
)
BestBelow-more floors values mins n (Some i) most b gives wide = (
  record {
    gives = gives;
    widest = λ j less other. ⊎_elim (λ before. let w = b.0.widest j before other in let m = b.1 in omega arith)
        (λ past. let e : j ≡ n = omega arith in subst (λ k. at values k ≤ at values n) (sym e) (omega arith)) (cases_lt j n);
  },
  refl,
)

-- else the best stays
pub BestBelow-same : (floors values mins : List ℕ) (n : ℕ) (best : Option ℕ) (most : ℕ) → BestBelow floors values mins n best most
    → (CanGive floors values mins n → at values n < most) → BestBelow floors values mins (n + 1) best most
BestBelow-same floors values mins n None most b stays = (
  record {
    none = λ j less other. ⊎_elim (λ before. b.0.none j before other)
        (λ past. let e : j ≡ n = omega arith in let low = stays (subst (CanGive floors values mins) e other) in let m = b.1 in absurd (omega arith))
        (cases_lt j n);
  },
  b.1,
)
BestBelow-same floors values mins n (Some i) most b stays = (
  record {
    gives = b.0.gives;
    widest = λ j less other. ⊎_elim (λ before. b.0.widest j before other)
        (λ past. let e : j ≡ n = omega arith in let low = stays (subst (CanGive floors values mins) e other) in let m = b.1 in
        subst (λ k. at values k ≤ at values i) (sym e) (omega arith))
        (cases_lt j n);
  },
  b.1,
)

-- a column past the last can't give
inside : (floors values mins : List ℕ) (j : ℕ) → CanGive floors values mins j → j < length values
inside floors values mins j g = ⊎_elim (λ l. l) (λ past. let e = get_or_past values j 0 past in let s = g.above in absurd (omega arith))
    (cases_lt j (length values))

pub BestBelow-all : (floors values mins : List ℕ) (n : ℕ) (best : Option ℕ) (most : ℕ) → length values ≤ n
    → BestBelow floors values mins n best most → MatchOption best (NoneGives floors values mins) (IsWidest floors values mins)
BestBelow-all floors values mins n None most all b = λ j g. let l = inside floors values mins j g in b.0.none j (omega arith) g
BestBelow-all floors values mins n (Some i) most all b = record {
  gives = b.0.gives;
  widest = λ j g. let l = inside floors values mins j g in b.0.widest j (omega arith) g;
}
