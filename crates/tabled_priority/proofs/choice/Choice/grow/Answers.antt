use Rattle.tabled_priority.proofs.Names.{IsChosen, List, [], added-none, added-some, arith, at, cases_eq, get_or-set_other, get_or-set_same}
use Rattle.tabled_priority.proofs.Names.{in_range, length, length-set, slice_set, subst, sum_by-set, sym, ℕ, ⊎_elim, ◌+◌, ◌<◌, ◌∙◌, ◌≤◌}
use Rattle.tabled_priority.specs.Grown.{IsGrownAt}
use Rattle.tabled_priority.specs.Laws.Grown.{IsGrownAt-still, IsGrownFrom-still}
use Rattle.tabled_priority.proofs.BestPlace.{IsChosen-above}
use Rattle.tabled_priority.proofs.Visiting.{IsBounded-one, IsBounded-whole, growing}
use Rattle.tabled_priority.proofs.choice.Choice.grow.Goals as goal

grown_at : (P : List ℕ → ℕ → Type 0) (xs : List ℕ) (i by : ℕ) → 0 < at xs i → P xs i
    → IsGrownAt P xs by (slice_set xs i (at xs i + by))
grown_at P xs i by pos named =
    let y = at xs i + by in
    let here = get_or-set_same xs i y 0 (in_range xs i 0 pos) in
    record {
      grows = record {
        kept = record {
          same_length = length-set xs i y;
          least = λ j. ⊎_elim (λ e. subst (λ k. at xs k ≤ at (slice_set xs i y) k) (sym e) (omega arith))
              (λ ne. let o = get_or-set_other xs i j y 0 ne in omega arith) (cases_eq j i);
          zeros = λ j z. get_or-set_other xs i j y 0
              (λ e. let p : 0 < at xs j = subst (λ k. 0 < at xs k) (sym e) pos in absurd (omega arith)) ∙ z;
        };
        total = let s = sum_by-set (λ (x : ℕ). x) xs i y 0 (in_range xs i 0 pos) in
            let a = added-some xs by i pos in omega arith;
      };
      place = i;
      named = λ _. named;
      others = λ j ne. get_or-set_other xs i j y 0 ne;
    }

pub returns-in_default-clause-grows : goal.returns-in_default-clause-grows
returns-in_default-clause-grows c =
    IsGrownAt-still (λ v. IsChosen c.args.self v []) c.args.values.now c.args.by
    (added-none c.args.values.now c.args.by c.in_default.ensures.answer)

pub returns-in_default-clause-growing : goal.returns-in_default-clause-growing
returns-in_default-clause-growing c =
    let xs = c.args.values.now in
    let none = c.in_default.ensures.answer in
    growing xs c.args.by xs 0 c.args.steps.now c.chosen.new.steps (IsGrownFrom-still xs c.args.by (added-none xs c.args.by none))
    (sym (added-none xs c.args.by none))
    (IsBounded-whole xs xs c.args.steps.now.count c.chosen.new.steps.count (length xs) (omega arith) c.in_default.ensures.steps (omega arith))

pub returns-clause-grows : goal.returns-clause-grows
returns-clause-grows c =
    let xs = c.args.values.now in
    let place = c.in-Some.place in
    subst (λ v. IsGrownAt (λ ys. IsChosen c.args.self ys []) xs c.args.by (slice_set xs place (v + c.args.by)))
    (sym c.visit-column.ensures.value)
    (grown_at (λ ys. IsChosen c.args.self ys []) xs place c.args.by
    (IsChosen-above c.args.self xs [] place c.in-Some.ensures.answer) c.in-Some.ensures.answer)

pub returns-clause-growing : goal.returns-clause-growing
returns-clause-growing c =
    let xs = c.args.values.now in
    let place = c.in-Some.place in
    let y = c.visit-column.result.value + c.args.by in
    let g = returns-clause-grows c in
    growing xs c.args.by (slice_set xs place y) c.args.by c.args.steps.now c.visit-column.new.steps g.grows
    (sym (added-some xs c.args.by place (IsChosen-above c.args.self xs [] place c.in-Some.ensures.answer)))
    (let f = c.in-Some.ensures.steps in IsBounded-one xs place y c.args.steps.now.count c.chosen.new.steps.count
    c.visit-column.new.steps.count (omega arith) (omega arith) c.visit-column.ensures.steps)
