-- The names of the crates below, and of the definitions of this one, that its proofs use. Declares
-- nothing.
pub use Rattle.std.proofs.Common.{Bool, List, MatchOption, [], ap, arith, cond, false, if◌then◌else◌, inl, inr, length, length-set, max}
pub use Rattle.std.proofs.Common.{min, nat_le, nat_lt, refl, rules, slice_set, subst, suc, sum, sym, true, zero, ℕ, ⊎_elim, ◌&&◌, ◌*◌, ◌+◌}
pub use Rattle.std.proofs.Common.{◌-◌, ◌<◌, ◌==◌, ◌||◌, ◌∙◌, ◌∷◌, ◌≡◌, ◌≢◌, ◌≤◌, ◌⊎◌}
pub use Rattle.std.proofs.lemmas.Bool.{cases_eq, cases_lt}
pub use Rattle.std.proofs.lemmas.Bool.Decides.{nat_tests}
pub use Rattle.std.proofs.lemmas.List.{get_or-set_other, get_or-set_same, get_or_past}
pub use Rattle.std.proofs.lemmas.List.Sums.{sum_by-set}
pub use Rattle.tabled_priority.specs.Choices.{IsChosen}
pub use Rattle.tabled_priority.specs.Grown.{IsGrownFrom, IsMinGrown, added}
pub use Rattle.tabled_priority.specs.Laws.Grown.{added-none, added-some}
pub use Rattle.tabled_priority.specs.Laws.Permitted.{in_range}
pub use Rattle.tabled_priority.specs.Laws.Shrunk.{at-le-sum}
pub use Rattle.tabled_priority.specs.Laws.Sums.{sum-below, sum_below-le, sum_below-plus, sum_below-prefix, sum_below-same, sum_below-zero}
pub use Rattle.tabled_priority.specs.Numbers.{greatest_usize}
pub use Rattle.tabled_priority.specs.Peak.{place_at}
pub use Rattle.tabled_priority.specs.Permitted.{IsPermitted, IsTakenFrom, at, low, spare, spare_total, taken}
pub use Rattle.tabled_priority.specs.Schedule.{CanChange, IsBase, IsChanged, IsReached, IsScheduled, IsSpan, IsSpanBy, amount, ramp_count}
pub use Rattle.tabled_priority.specs.Schedule.{first_level, first_of, is_open, last_level, last_of, open_count, open_of, share, start_of}
pub use Rattle.tabled_priority.specs.Schedule.{total_amount}
pub use Rattle.tabled_priority.specs.Shrunk.{IsBefore, IsMaxShrunk, IsMinShrunk, IsRoundShrunk, IsSideShrunk, ceiling, is_met, place_after}
pub use Rattle.tabled_priority.specs.Shrunk.{start}
pub use Rattle.tabled_priority.specs.Spares.{spare_if_up_to, spare_up_to, spare_within}
pub use Rattle.tabled_priority.specs.Sums.{one_if, sum_below}
pub use Rattle.tabled_priority.specs.Visits.{changed, counted}
pub use Rattle.tabled_priority.specs.declared.schedule.Schedule.{Schedule}
pub use Rattle.tabled_priority.specs.declared.schedule.Schedule.TheVariants.{Depths, Gains, Heights, Rounds}
