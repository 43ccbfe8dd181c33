use Rattle.tabled_text.proofs.Names.{ap, arith, is_letter_or_break, list_all, sym, ◌∙◌}
use Rattle.tabled_text.proofs.RunLemmas.{all-more, some-fails}
use Rattle.tabled_text.proofs.letters.is_letter_text.Goals as goal

pub returns-then-not-is_text_block : goal.returns-then-not-is_text_block
returns-then-not-is_text_block c =
    sym (ap (list_all is_letter_or_break) (sym c.as_bytes-bytes.ensures.value)
    ∙ some-fails is_letter_or_break c.as_bytes-bytes.result.now c.whole.at 16 c.whole.invariant.passed
    (sym (c.is_text_block.ensures ∙ ap (list_all is_letter_or_break) c.block_at.ensures) ∙ c.if-not-is_text_block.true))

pub whole-preserved : goal.whole-preserved
whole-preserved c = record {
  end = omega arith;
  passed = all-more is_letter_or_break c.as_bytes-bytes.result.now c.whole.at 16 c.whole.invariant.passed
      (sym (c.is_text_block.ensures ∙ ap (list_all is_letter_or_break) c.block_at.ensures) ∙ c.if-not-is_text_block.false);
}
