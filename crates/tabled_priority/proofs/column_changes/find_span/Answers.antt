use Rattle.tabled_priority.proofs.Names.{arith, ramp_count, first_of, inl, inr, is_open, last_of, nat_tests, one_if, start, start_of, subst}
use Rattle.tabled_priority.proofs.Names.{sum_below-prefix, sym, true, ℕ, ◌+◌, ◌-◌, ◌<◌, ◌∙◌, ◌≡◌, ◌≤◌}
use Rattle.std.proofs.Common.{MatchBool}
use Rattle.tabled_priority.specs.Laws.Round.{start-le}
use Rattle.tabled_priority.proofs.Spans.{span_right, span_round}
use Rattle.tabled_priority.proofs.column_changes.find_span.Goals as goal
use Rattle.tabled_priority.proofs.column_changes.find_span.Goals.{then-rest-ahead, else-rest-ahead}

pub returns-then-is_from_right-clause-span : goal.returns-then-is_from_right-clause-span
returns-then-is_from_right-clause-span c =
    let ramps = c.args.ramps.now in
    let o = c.count_open-open.ensures.count in
    let nth = c.nth_open-first.ensures.nth in
    let enough = c.requires.enough in
    span_right (first_of ramps) (last_of ramps) (ramp_count ramps) c.args.reached.level
    c.args.reached.rest c.nth_open-first.result c.nth_open-first.ensures.inside (omega arith)

pub returns-then-is_from_right-clause-side : goal.returns-then-is_from_right-clause-side
returns-then-is_from_right-clause-side c =
    let ramps = c.args.ramps.now in
    let n = ramp_count ramps in
    let inside = c.nth_open-first.ensures.inside in
    subst (λ b. MatchBool b (n - 1 + 1 ≡ n) ((c.nth_open-first.result ≡ start (start_of ramps.schedule) n)
    × (is_open (first_of ramps) (last_of ramps) c.args.reached.level (n - 1) ≡ true)))
    (sym c.if-is_from_right.true ∙ c.is_from_right.ensures) (omega arith)

start_within : (kept n : ℕ) → start kept n ≤ n
start_within kept n = grind (arith, nat_tests)

pub overflow_sub-ahead : goal.overflow_sub-ahead
overflow_sub-ahead c =
    let ramps = c.args.ramps.now in
    let from = first_of ramps in
    let to = last_of ramps in
    let s = start_within (start_of ramps.schedule) (ramp_count ramps) in
    let within : c.start-first.result ≤ ramp_count ramps = (let e = c.start-first.ensures in omega arith) in
    let p = sum_below-prefix (λ i. one_if (is_open from to c.args.reached.level i)) c.start-first.result (ramp_count ramps) within in
    let a = c.count_open-before.ensures.count in
    let b = c.count_open-open.ensures.count in
    omega arith

pub returns-clause-span : goal.returns-clause-span
returns-clause-span c =
    let ramps = c.args.ramps.now in
    let from = first_of ramps in
    let to = last_of ramps in
    let n = ramp_count ramps in
    let level = c.args.reached.level in
    let inside = c.nth_open-last.ensures.inside in
    let first = c.start-first.result in
    let s = start-le (start_of ramps.schedule) n (omega arith) in
    let within : first < n = (let e = c.start-first.ensures in omega arith) in
    let p = sum_below-prefix (λ i. one_if (is_open from to level i)) first n (omega arith) in
    let a = c.count_open-before.ensures.count in
    let b = c.count_open-open.ensures.count in
    span_round from to n level c.args.reached.rest first c.nth_open-last.result c.if-rest-ahead.nth
    within inside c.nth_open-last.ensures.opened c.nth_open-last.ensures.nth c.requires.some c.requires.enough p
    (elim c.if-rest-ahead.branch [
      | then-rest-ahead w ↦ inl (omega arith, omega arith)
      | else-rest-ahead w ↦ inr (omega arith, omega arith)
    ])

pub returns-clause-side : goal.returns-clause-side
returns-clause-side c =
    let ramps = c.args.ramps.now in
    let n = ramp_count ramps in
    subst (λ b. MatchBool b (c.nth_open-last.result + 1 ≡ n) ((c.start-first.result ≡ start (start_of ramps.schedule) n)
    × (is_open (first_of ramps) (last_of ramps) c.args.reached.level c.nth_open-last.result ≡ true)))
    (sym c.if-is_from_right.false ∙ c.is_from_right.ensures) (c.start-first.ensures, c.nth_open-last.ensures.opened)
