use Rattle.tabled_text.proofs.Names.{arith, length, nat_tests, ◌∙◌, ◌≡◌}
use Rattle.tabled_text.proofs.LetterLines.{are-broken}
use Rattle.tabled_text.proofs.LetterMeasures.{measured-as, measured-end, measured-next, measured-on, measured-start}
use Rattle.tabled_text.proofs.line_ends.measures_by_columns.Goals as goal
use Rattle.tabled_text.proofs.line_ends.measures_by_columns.Goals.{else-needed-n, then-needed-n}

pub letters-init : goal.letters-init
letters-init c = measured-start c.args.n c.args.text.now c.utf8.text c.requires

pub letters-preserved : goal.letters-preserved
letters-preserved c =
    let m = c.letters.invariant in
    let fits = m.fits in
    let some = (are-broken c.args.n c.args.text.now c.utf8.text c.requires).some in
    elim c.if-needed-n.branch [
      | then-needed-n w ↦
          measured-as (measured-next some m c.split_known_letter-own.ensures (omega (arith, c.min-needed.ensures, w.if-needed-n.true)))
          (omega (arith, w.widest-is, w.max-widest.ensures)) (omega (arith, w.count-is)) (omega (arith, w.columns-is, c.min-needed.ensures))
      | else-needed-n w ↦
          measured-as (measured-on some m c.split_known_letter-own.ensures (omega (arith, c.min-needed.ensures, w.if-needed-n.false)))
          (omega (arith, w.widest-is)) (omega (arith, w.count-is)) (omega (arith, w.columns-is, c.min-needed.ensures))
    ]

pub returns-clause-columns : goal.returns-clause-columns
returns-clause-columns c =
    let empty : length c.letters.rest.now ≡ 0 = grind (arith, nat_tests, c.is_empty.ensures, c.letters-test.false) in
    let e = measured-end c.args.text.now c.letters.rest.now c.utf8.text c.requires c.letters.invariant empty in
    c.max.ensures ∙ e.columns_are

pub returns-clause-lines : goal.returns-clause-lines
returns-clause-lines c =
    let empty : length c.letters.rest.now ≡ 0 = grind (arith, nat_tests, c.is_empty.ensures, c.letters-test.false) in
    (measured-end c.args.text.now c.letters.rest.now c.utf8.text c.requires c.letters.invariant empty).count_is
