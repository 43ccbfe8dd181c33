use Rattle.tabled_priority.proofs.Names.{ap, arith, at, cases_eq, cases_lt, low, min, subst, sym, ⊎_elim, ◌<◌, ◌∙◌, ◌≡◌, ◌≤◌}
use Rattle.tabled_priority.proofs.column_changes.highest.Goals as goal
use Rattle.tabled_priority.proofs.column_changes.highest.Goals.{then-size-least, else-size-least}

pub loop-place-preserved : goal.loop-place-preserved
loop-place-preserved c =
    let mins = c.args.mins.now in
    let old = c.args.old.now in
    let new = c.args.new.now in
    let i = c.loop-place.place in
    let inv = c.loop-place.invariant in
    let floor : c.min.result ≡ low old mins i = c.min.ensures ∙ ap (min (at old i)) c.minimum-least.ensures in
    let least : c.minimum-least.result ≡ at mins i = c.minimum-least.ensures in
    let above : low old mins i ≤ at new i = subst (λ k. k ≤ at new i) floor c.if-size-min.false in
    let below : at new i ≤ at old i = c.if-size-old.false in
    record {
      same = inv.same;
      within = λ k lt. ⊎_elim
          (λ e. subst (λ j. (low old mins j ≤ at new j) × (at new j ≤ at old j)) (sym e) (above, below))
          (λ ne. inv.within k (omega arith)) (cases_eq k i);
      most = elim c.if-size-least.branch [
        | then-size-least w ↦ λ k lt h. let t = w.top-is in let m = w.max-top.ensures in ⊎_elim
            (λ e. subst (λ j. at new j ≤ c.if-size-least.top) (sym e) (omega arith))
            (λ ne. let a = inv.most k (omega arith) h in omega arith) (cases_eq k i)
        | else-size-least w ↦ λ k lt h. let t = w.top-is in let f = w.if-size-least.false in ⊎_elim
            (λ e. let h' : at mins i < at new i = subst (λ j. at mins j < at new j) e h in absurd (omega arith))
            (λ ne. let a = inv.most k (omega arith) h in omega arith) (cases_eq k i)
      ];
      reached = elim c.if-size-least.branch [
        | then-size-least w ↦ λ p. let t = w.top-is in let m = w.max-top.ensures in let up = w.if-size-least.true in ⊎_elim
            (λ higher. let q = inv.reached (omega arith) in (q.0, q.1, q.2 ∙ (let e : c.loop-place.top ≡ c.if-size-least.top = omega arith in e)))
            (λ le. (i, (let e : at mins i < at new i = omega arith in e), (let e : at new i ≡ c.if-size-least.top = omega arith in e)))
            (cases_lt (at new i) c.loop-place.top)
        | else-size-least w ↦ λ p. let t = w.top-is in let q = inv.reached (omega arith) in (q.0, q.1, q.2 ∙ sym t)
      ];
    }
