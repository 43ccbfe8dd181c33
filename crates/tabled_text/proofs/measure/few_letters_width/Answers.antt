use Rattle.tabled_text.proofs.Names.{IsUtf8-past_char, [], ap, arith, chars, chars-nil, length, nat_tests, nil_from_length, subst, sym, ◌+◌}
use Rattle.tabled_text.proofs.Names.{◌∙◌, ◌≡◌}
use Rattle.tabled_text.proofs.LetterBytes.{AreCounted, counted-cons, counted-line, counted-nil}
use Rattle.tabled_text.proofs.measure.few_letters_width.Goals as goal

pub letters-init : goal.letters-init
letters-init c = record {
  counted = λ n h. (let same : n ≡ 0 + n = omega arith in subst (AreCounted (chars c.args.line.now)) same h);
  bound = omega arith;
  utf8 = c.utf8.line;
}

pub letters-preserved : goal.letters-preserved
letters-preserved c =
    let b = c.in_ok-count.ensures in
    let count = c.in_ok-count.count in
    let after = chars c.in_ok-count.after.now in
    record {
      counted = λ n h. (
          let sum : c.letters.columns + (count + n) ≡ c.letters.columns + count + n = omega arith in
          subst (AreCounted (chars c.args.line.now)) sum
          (c.letters.invariant.counted (count + n) (subst (λ l. AreCounted l (count + n)) (sym b.characters) (counted-cons b.first count after n b.is h))));
      bound = omega (arith, c.letters.invariant.bound, b.shorter, b.is.few);
      utf8 = IsUtf8-past_char c.letters.rest.now c.in_ok-count.after.now b.first c.letters.invariant.utf8 b.parts;
    }

pub returns-clause-line : goal.returns-clause-line
returns-clause-line c =
    let empty : length c.letters.rest.now ≡ 0 = grind (arith, nat_tests, c.is_empty.ensures, c.letters-test.false) in
    let none : chars c.letters.rest.now ≡ [] = ap chars (nil_from_length c.letters.rest.now empty) ∙ chars-nil in
    let sum : c.letters.columns + 0 ≡ c.letters.columns = omega arith in
    counted-line c.args.line.now c.letters.columns c.utf8.line
    (subst (AreCounted (chars c.args.line.now)) sum (c.letters.invariant.counted 0 (subst (λ l. AreCounted l 0) (sym none) counted-nil)))
