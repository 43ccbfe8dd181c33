use Rattle.tabled_set.proofs.Names.{List, SuffixLimit, [], ap, arith, inl, inr, length, nat_lt, nat_tests, refl, suffix_columns, true, ℕ}
use Rattle.tabled_set.proofs.Names.{◌==◌, ◌∷◌, ◌≡◌, ◌⊎◌}
use Rattle.tabled_set.proofs.ChangingCells.{match-both}
use Rattle.tabled_set.specs.Truncated.{NeedsNewSuffix}
use Rattle.tabled_set.proofs.TruncatedTexts.{no_columns, nothing-used}
use Rattle.tabled_set.proofs.truncate.borrowed_suffix.Goals.{then-content_size-eq0-via-then-content_size-eq0}
use Rattle.tabled_set.proofs.truncate.borrowed_suffix.Goals.{then-content_size-eq0-via-else-content_size-eq0+then-is_empty}
use Rattle.tabled_set.proofs.truncate.borrowed_suffix.Goals as goal

empty : (suffix : List ℕ) → (length suffix == 0) ≡ true → suffix ≡ []
empty [] e = refl
empty (x ∷ xs) e = absurd (grind (arith, e))

nothing_made : (content_size : ℕ) (suffix : List ℕ) (limit : SuffixLimit) → (content_size ≡ 0) ⊎ (suffix ≡ []) → NeedsNewSuffix content_size suffix limit → ⊥
nothing_made content_size suffix limit h made =
    match-both (content_size == 0) made (λ _ no. no)
    (λ some rest. match-both (nat_lt (suffix_columns suffix) content_size) rest (λ _ no. no)
    (λ above _. elim h [
      | inl none ↦ grind (arith, nat_tests)
      | inr none ↦ let bare = ap suffix_columns none in grind (arith, nat_tests, no_columns)
    ]))

pub returns-then-content_size-eq0 : goal.returns-then-content_size-eq0
returns-then-content_size-eq0 c =
    let suffix = c.args.suffix.now in
    let none : (c.args.content_size ≡ 0) ⊎ (suffix ≡ []) = elim c.then-content_size-eq0.branch [
      | then-content_size-eq0-via-then-content_size-eq0 w ↦ inl w.if-content_size-eq0.true
      | then-content_size-eq0-via-else-content_size-eq0+then-is_empty w ↦
          inr (empty suffix (grind (arith, w.is_empty.ensures, w.if-is_empty.true)))
    ] in
    record {
      used = nothing-used c.args.content_size suffix c.args.limit none;
      some = nothing_made c.args.content_size suffix c.args.limit none;
      none = tt;
    }
