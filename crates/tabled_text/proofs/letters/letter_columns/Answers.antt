use Rattle.tabled_text.proofs.Names.{AreLetters, ap, arith, drop, length, length-chunk, length-drop, subst, sym, ◌+◌, ◌≡◌}
use Rattle.std.proofs.lemmas.Simd.{chunk-drop}
use Rattle.tabled_text.proofs.LetterBytes.{letters-append, letters-bound}
use Rattle.tabled_text.proofs.letters.letter_columns.Goals as goal

pub overflow_add-columns : goal.overflow_add-columns
overflow_add-columns c =
    let size = length-chunk c.whole.at 16 c.args.bytes.now (omega arith) in
    omega (arith, c.whole.invariant.bound, c.whole.invariant.end, letters-bound c.in_ok-count.ensures, ap length c.block_at.ensures, size)

pub whole-preserved : goal.whole-preserved
whole-preserved c =
    let bytes = c.args.bytes.now in
    let at = c.whole.at in
    let count = c.in_ok-count.count in
    let size = length-chunk at 16 bytes (omega arith) in
    record {
      end = omega arith;
      bound = omega (arith, c.whole.invariant.bound, letters-bound c.in_ok-count.ensures, ap length c.block_at.ensures, size);
      before = λ n h.
          let sum : c.whole.columns + (count + n) ≡ c.whole.columns + count + n = omega arith in
          subst (AreLetters (drop c.args.start bytes)) sum
          (c.whole.invariant.before (count + n) (subst (λ l. AreLetters l (count + n)) (sym (chunk-drop at 16 bytes))
          (letters-append (subst (λ l. AreLetters l count) c.block_at.ensures c.in_ok-count.ensures) h)));
    }

pub overflow_add-result : goal.overflow_add-result
overflow_add-result c =
    omega (arith, c.whole.invariant.bound, c.whole.invariant.end, letters-bound c.in_ok-last.ensures, length-drop c.whole.at c.args.bytes.now)

pub returns : goal.returns
returns c = c.whole.invariant.before c.in_ok-last.last c.in_ok-last.ensures
