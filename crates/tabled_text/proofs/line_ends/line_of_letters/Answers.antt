use Rattle.tabled_text.proofs.Names.{Some, [], arith, eqb-true, length, nat_tests, subst, sym, ◌<◌, ◌∙◌, ◌∷◌, ◌≡◌}
use Rattle.tabled_text.proofs.CutLemmas.{front_boundary, front_taken}
use Rattle.tabled_text.proofs.LetterLemmas.{letter-count}
use Rattle.tabled_text.proofs.LetterLines.{first-last, first-more, first-whole, line-full, line-replaced, taken-all}
use Rattle.tabled_text.proofs.LetterPieces.{letters-taken}
use Rattle.tabled_text.proofs.Pieces.{Taken-more}
use Rattle.tabled_text.specs.LineEnds.{IsFirstLine}
use Rattle.tabled_text.specs.declared.line_ends.LineEnds.TheVariants.{Columns}
use Rattle.tabled_text.proofs.line_ends.line_of_letters.Goals as goal
use Rattle.tabled_text.proofs.line_ends.line_of_letters.Goals.{else-is_empty, then-is_empty}

pub letters-init : goal.letters-init
letters-init c =
    let e = c.split_letters-columns.ensures in
    letters-taken c.args.n c.split_letters-columns.result.1 e.parts e.front e.rest e.letters e.fits

pub letters-preserved : goal.letters-preserved
letters-preserved c =
    let count = c.split_known_letter-count.result.0 in
    let rest = c.letters.rest.now in
    let after = c.split_known_letter-count.result.1.now in
    let fits = c.letters.invariant.is.fits in
    Taken-more c.args.n c.args.text.now c.letters.columns count rest after c.letters.invariant
    (letter-count count rest after c.split_known_letter-count.ensures) (omega arith)

pub split_at-requires : goal.split_at-requires
split_at-requires c = front_boundary _ _ c.letters.invariant.is.parts c.letters.invariant.is.rest_utf8

pub returns-then-columns-eq0 : goal.returns-then-columns-eq0
returns-then-columns-eq0 c =
    let n = c.args.n in
    let text = c.args.text.now in
    let after = c.split_known_letter-count.result.1 in
    let line = line-replaced n c.letters.columns c.split_known_letter-count.result.0 text c.letters.rest.now after.now c.utf8.text c.requires
    c.letters.invariant c.if-columns-eq0.true c.split_known_letter-count.ensures (omega arith) in
    elim c.if-is_empty.branch [
      | then-is_empty w ↦
          subst (IsFirstLine (Columns n) text (0xEF ∷ 0xBF ∷ 0xBD ∷ []) 1) (sym w.result-is)
          (first-last n 1 text (0xEF ∷ 0xBF ∷ 0xBD ∷ []) after.now c.utf8.text c.requires line
          (eqb-true (length after.now) 0 (sym c.is_empty-then-columns-eq0.ensures ∙ w.if-is_empty.true)))
      | else-is_empty w ↦
          subst (IsFirstLine (Columns n) text (0xEF ∷ 0xBF ∷ 0xBD ∷ []) 1) (sym w.result-is)
          (first-more n 1 text (0xEF ∷ 0xBF ∷ 0xBD ∷ []) after c.utf8.text c.requires line
          (grind (arith, nat_tests, c.is_empty-then-columns-eq0.ensures, w.if-is_empty.false)))
    ]

pub returns-then-count-n : goal.returns-then-count-n
returns-then-count-n c =
    let n = c.args.n in
    let text = c.args.text.now in
    let rest = c.letters.rest in
    let t = c.letters.invariant in
    let some : 0 < length rest.now = grind (arith, nat_tests, c.is_empty.ensures, c.letters-test.true) in
    subst (λ l. IsFirstLine (Columns n) text l c.letters.columns (Some rest)) (sym (c.split_at.ensures.front ∙ front_taken _ _ t.is.parts))
    (first-more n c.letters.columns text t.front rest c.utf8.text c.requires
    (line-full n c.letters.columns c.split_known_letter-count.result.0 text rest.now c.split_known_letter-count.result.1.now c.utf8.text
    c.requires t (omega arith) c.split_known_letter-count.ensures (omega arith)) some)

pub returns : goal.returns
returns c =
    let empty : length c.letters.rest.now ≡ 0 = grind (arith, nat_tests, c.is_empty.ensures, c.letters-test.false) in
    first-whole c.args.n c.letters.columns c.args.text.now c.utf8.text c.requires
    (taken-all c.args.text.now c.letters.rest.now c.letters.invariant empty) c.letters.invariant.is.fits
