-- What shrinking and growing ensure whatever the priority: the old list, the minimums, the amount,
-- the new list, how much was taken or added, and the counts before and after.
use Rattle.std.specs.Prelude.{◌≡◌, ℕ, ◌+◌, ◌≤◌, List, sum}
use Rattle.tabled_priority.specs.declared.column_changes.Steps.{Steps}
use Rattle.tabled_priority.specs.Grown.{IsNoneSmaller}
use Rattle.tabled_priority.specs.Permitted.{IsPermitted}
use Rattle.tabled_priority.specs.Visits.{IsBounded}

pub record Shrinks (old mins : List ℕ) (by : ℕ) (new : List ℕ) (taken : ℕ) (before after : Steps)
    : Type 0 where
  pub permitted : IsPermitted old mins new
  pub total : sum new + taken ≡ sum old
  pub at_most : taken ≤ by
  pub visits : IsBounded old new before.count after.count

pub record Grows (old : List ℕ) (by : ℕ) (new : List ℕ) (added : ℕ) (before after : Steps) : Type 0 where
  pub kept : IsNoneSmaller old new
  pub total : sum new ≡ sum old + added
  pub at_most : added ≤ by
  pub visits : IsBounded old new before.count after.count
