use Rattle.tabled_text.proofs.Names.{ap, is_narrow_lead, is_wide_lead, subst, sym, ◌<◌, ◌∙◌, ◌≤◌}
use Rattle.tabled_text.proofs.LetterLemmas.{ascii-length, narrow-length, narrow-letter, wide-length, wide-letter}
use Rattle.tabled_text.proofs.character.letter_size.Goals as goal

pub returns-then-is_wide_lead : goal.returns-then-is_wide_lead
returns-then-is_wide_lead c = λ x led.
    let is = sym (ap is_wide_lead led) ∙ sym c.is_wide_lead.ensures ∙ c.if-is_wide_lead.true in
    (wide-letter x is, wide-length x is)

pub returns-then-lead-lt128 : goal.returns-then-lead-lt128
returns-then-lead-lt128 c = λ x led.
    let is = sym (ap is_narrow_lead led) ∙ sym c.is_narrow_lead.ensures ∙ c.if-not-is_narrow_lead.false in
    (narrow-letter x is, ascii-length x (subst (λ b. b < 128) led c.if-lead-lt128.true))

pub returns : goal.returns
returns c = λ x led.
    let is = sym (ap is_narrow_lead led) ∙ sym c.is_narrow_lead.ensures ∙ c.if-not-is_narrow_lead.false in
    (narrow-letter x is, narrow-length x is (subst (λ b. 128 ≤ b) led c.if-lead-lt128.false))
