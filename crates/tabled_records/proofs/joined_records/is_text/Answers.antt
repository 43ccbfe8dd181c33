use Rattle.tabled_records.proofs.joined_records.is_text.Goals as goal

pub returns : goal.returns
returns c = c.utf8.text
