use Rattle.tabled_text.proofs.Names.{AreLetters, arith, refl, subst, sym, take-add, ◌+◌}
use Rattle.tabled_text.proofs.LetterBytes.{letters-append}
use Rattle.tabled_text.proofs.letters.letter_blocks.Goals as goal

pub whole-init : goal.whole-init
whole-init c = record { end = omega arith; letters = record { all = refl; columns = refl }; fits = omega arith }

pub whole-preserved : goal.whole-preserved
whole-preserved c =
    let bytes = c.args.bytes.now in
    let at = c.whole.at in
    let count = c.in-Some.count in
    record {
      end = omega arith;
      letters = subst (λ l. AreLetters l (c.whole.columns + count)) (sym (take-add at 16 bytes))
          (letters-append c.whole.invariant.letters (subst (λ l. AreLetters l count) c.block_at.ensures c.in-Some.ensures));
      fits = omega arith;
    }
