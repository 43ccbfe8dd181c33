use Rattle.tabled_priority.proofs.Names.{Depths, Gains, Heights, IsBase, IsReached, List, Rounds, Schedule, arith, at, ramp_count, first_of}
use Rattle.tabled_priority.proofs.Names.{greatest_usize, last_level, last_of, open_count, subst, sym, total_amount, ℕ, ◌*◌, ◌+◌, ◌-◌, ◌<◌}
use Rattle.tabled_priority.proofs.Names.{◌≡◌, ◌≤◌}
use Rattle.std.proofs.Common.{◌/◌, ◌%◌}
use Rattle.std.proofs.Math.Nat.{mul_comm}
use Rattle.tabled_priority.proofs.Ramps.{reached, open_some, open_below}
use Rattle.tabled_priority.proofs.schedule.reach.Goals as goal

-- the levels that fit, and what is left
parted : (from to : ℕ → ℕ) (n wanted base count missing : ℕ) → IsBase from to n wanted base → count ≡ open_count from to n base → 0 < count
    → missing ≡ wanted - total_amount from to n base
    → IsReached from to n wanted (base + (missing - 1) / count) (missing - (missing - 1) / count * count)
parted from to n wanted base count missing b o some m =
    let q = (missing - 1) / count in
    let below = b.below in
    let d : count * q + (missing - 1) % count ≡ missing - 1 = omega arith in
    let r : (missing - 1) % count < count = omega arith in
    let c : q * count ≡ count * q = mul_comm q count in
    let s : (q + 1) * count ≡ q * count + count = omega arith in
    subst (λ k. IsReached from to n wanted (base + q) (k - q * count)) (sym m)
    (subst (λ k. IsReached from to n wanted (base + q) (wanted - total_amount from to n base - q * k)) (sym o)
    (reached from to n wanted base q b (subst (λ k. total_amount from to n base + q * k < wanted) o (omega arith))
    (subst (λ k. wanted ≤ total_amount from to n base + (q + 1) * k) o (omega arith))))

ends : (kind : Schedule) (values mins : List ℕ) (i : ℕ) → at values i ≤ greatest_usize → last_level kind values mins i ≤ greatest_usize
ends (Depths _) values mins i h = omega arith
ends (Rounds _) values mins i h = omega arith
ends (Heights _) values mins i h = grind arith
ends (Gains _) values mins i h = grind arith

pub nonzero_div-levels : goal.nonzero_div-levels
nonzero_div-levels c =
    let ramps = c.args.ramps.now in
    let o = open_some (first_of ramps) (last_of ramps) (ramp_count ramps) c.args.wanted c.find_base-base.result
    greatest_usize c.find_base-base.ensures.base c.requires.enough in
    omega arith

pub returns-clause-reached : goal.returns-clause-reached
returns-clause-reached c =
    let ramps = c.args.ramps.now in
    let b = c.find_base-base.ensures.base in
    let below = b.below in
    let o = open_some (first_of ramps) (last_of ramps) (ramp_count ramps) c.args.wanted c.find_base-base.result
    greatest_usize b c.requires.enough in
    parted (first_of ramps) (last_of ramps) (ramp_count ramps) c.args.wanted c.find_base-base.result
    c.count_open-open.result (c.args.wanted - c.total_amount.result) b c.count_open-open.ensures.count (omega arith) (omega arith)

pub returns-clause-below : goal.returns-clause-below
returns-clause-below c =
    let ramps = c.args.ramps.now in
    let r = returns-clause-reached c in
    let some = r.some in
    let enough = r.enough in
    open_below (first_of ramps) (last_of ramps) (ramp_count ramps)
    (c.find_base-base.result + (c.args.wanted - c.total_amount.result - 1) / c.count_open-open.result) greatest_usize
    (λ i _. ends ramps.schedule ramps.values.now ramps.mins.now i (let f = c.total_amount.ensures.values_fit i in omega (arith, f))) (omega arith)

pub overflow_add-result : goal.overflow_add-result
overflow_add-result c = let b = returns-clause-below c in omega arith
