use Rattle.tabled_pool.proofs.Names.{List, TableValue, [], arith, length, refl, ◌++◌, ◌∙◌, ◌∷◌, ◌≡◌}
use Rattle.tabled_pool.specs.declared.tree.Level.{Level}
use Rattle.tabled_pool.proofs.Levels.{ended, goes_on}
use Rattle.tabled_pool.proofs.tree.TableValue.clone.Goals as goal

none_left : (xs : List TableValue) → length xs ≡ 0 → xs ≡ []
none_left [] h = refl
none_left (x ∷ xs) h = absurd (omega (arith, h))

pub values-preserved-in_default-split_first : goal.values-preserved-in_default-split_first
values-preserved-in_default-split_first c =
    let popped : c.values.levels.items ≡ c.pop.new.self.items ++ c.in-Some.level ∷ [] = c.in-Some.ensures.items in
    ended _ c.in-Some.level _ c.values.copy _ c.in_ok-push.ensures.items (none_left _ c.in_default-split_first.ensures.cases) c.list_of-copy.ensures
    ∙ (rw popped at c.values.invariant)

pub values-preserved : goal.values-preserved
values-preserved c =
    let l = c.in-Some.level in
    let m : Level = record { is_row = l.is_row; copies = c.push.new.self; left = c.in-Some-split_first.left } in
    let popped : c.values.levels.items ≡ c.pop.new.self.items ++ c.in-Some.level ∷ [] = c.in-Some.ensures.items in
    let next = goes_on c.pop.new.self.items l m c.values.copy c.in-Some-split_first.next.now refl c.in_ok-push.ensures.items
    c.in-Some-split_first.ensures.cases.0 in
    c.in_ok-copy-2.ensures.copy ∙ (rw c.in_ok-push-2.ensures.items next) ∙ (rw popped at c.values.invariant)
