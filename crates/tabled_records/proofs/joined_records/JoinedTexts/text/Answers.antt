use Rattle.tabled_records.proofs.Names.{ap, arith, length, string_bytes}
use Rattle.tabled_records.proofs.Joining.{length-texts}
use Rattle.tabled_records.proofs.joined_records.JoinedTexts.text.Goals as goal

pub text_at-requires-clause-inside : goal.text_at-requires-clause-inside
text_at-requires-clause-inside c =
    let t = c.self.inside in
    omega (arith, c.requires, ap length c.self.view_is, length-texts 0 (string_bytes t.whole) 0 t.ends)
