use Rattle.tabled_text.proofs.Names.{is_drawn, is_listed, or_right, sym, ◌∙◌}
use Rattle.tabled_text.proofs.PlainLemmas.{is_additive-listed, is_additive-plain, is_plain-listed}
use Rattle.tabled_text.proofs.PlainLines.{additive-plain, additive_column-plain, only_plain-printable}
use Rattle.tabled_text.proofs.WrapRoom.{only_plain_replacement}
use Rattle.tabled_text.proofs.laws.plain_characters.Goals as goal

pub returns : goal.returns
returns g = record {
  listed = λ c listed width. sym (is_plain-listed c listed) ∙ width;
  printable = only_plain-printable;
  replacement = only_plain_replacement;
  drawn = λ c drawn width. sym (is_additive-listed c (or_right (is_listed c) (is_drawn c) drawn)) ∙ width;
  additive = is_additive-plain;
  columns = additive_column-plain;
  texts = additive-plain;
}
