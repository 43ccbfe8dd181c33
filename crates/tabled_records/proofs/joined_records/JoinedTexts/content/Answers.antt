use Rattle.tabled_records.proofs.Names.{AreLines, ap, get_or, length, lines_of, subst, sym, ◌∙◌}
use Rattle.tabled_records.proofs.joined_records.JoinedTexts.content.Goals as goal

pub measured-requires-clause-lines : goal.measured-requires-clause-lines
measured-requires-clause-lines c =
    let told = subst (λ texts. AreLines texts c.self.inside.lines.items) c.self.view_is c.self.invariant.kept.told in
    c.lines_at.ensures ∙ ap (λ lines. get_or lines c.args.place 1) c.deref.ensures.value ∙ told c.args.place c.requires
    ∙ ap (λ text. length (lines_of text)) (sym c.text-columns.ensures.text)
