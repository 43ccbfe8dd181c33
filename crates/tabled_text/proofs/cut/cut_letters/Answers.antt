use Rattle.tabled_text.proofs.Names.{arith, cases_Bool, cond, length, nat_lt, nat_tests, subst, sym, ⊎_elim, ◌-◌, ◌<◌, ◌≤◌}
use Rattle.tabled_text.proofs.CutText.{letters-filled, letters-left, letters-more, letters-taken}
use Rattle.tabled_text.specs.Cut.{IsCutAt}
use Rattle.tabled_text.proofs.cut.cut_letters.Goals as goal

pub letters-init : goal.letters-init
letters-init c =
    let e = c.split_letters-columns.ensures in
    letters-taken c.args.n c.split_letters-columns.result.1 e.parts e.front e.rest e.letters e.fits

pub letters-preserved : goal.letters-preserved
letters-preserved c =
    let fits = c.letters.invariant.fits in
    letters-more c.letters.invariant c.in-Some.ensures (omega arith)

pub returns-then-count-n : goal.returns-then-count-n
returns-then-count-n c =
    let n = c.args.n in
    let text = c.args.text.now in
    let rest = c.letters.rest.now in
    let columns = c.letters.columns in
    let fits = c.letters.invariant.fits in
    ⊎_elim
    (λ less. let l : columns < n = grind (arith, nat_tests) in
    subst (λ b. IsCutAt n text (length text - length rest) (cond b 1 0)) (sym less)
    (letters-filled c.in-Some.after.now c.utf8.text c.letters.invariant c.in-Some.ensures l (omega (arith, c.if-count-n.true, l))))
    (λ full. let e : n ≤ columns = grind (arith, nat_tests) in
    subst (λ b. IsCutAt n text (length text - length rest) (cond b 1 0)) (sym full)
    (letters-left c.utf8.text c.letters.invariant (omega (arith, e, fits))))
    (cases_Bool (nat_lt columns n))

pub returns-then-columns-n : goal.returns-then-columns-n
returns-then-columns-n c = letters-left c.utf8.text c.letters.invariant c.if-columns-n.true
