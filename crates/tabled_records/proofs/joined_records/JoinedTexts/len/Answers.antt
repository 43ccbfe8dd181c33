use Rattle.tabled_records.proofs.Names.{ap, length, string_bytes, sym, ◌∙◌}
use Rattle.tabled_records.proofs.Joining.{length-texts}
use Rattle.tabled_records.proofs.joined_records.JoinedTexts.len.Goals as goal

pub returns : goal.returns
returns c = c.len.ensures ∙ sym (length-texts 0 (string_bytes c.self.inside.whole) 0 c.self.inside.ends) ∙ ap length c.self.view_is
