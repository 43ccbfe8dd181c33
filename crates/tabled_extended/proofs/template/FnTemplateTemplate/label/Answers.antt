use Rattle.tabled_extended.proofs.Names.{Ok, refl, subst, ◌≡◌}
use Rattle.tabled_extended.proofs.template.FnTemplateTemplate.label.Goals as goal

pub returns-clause-text : goal.returns-clause-text
returns-clause-text g c =
    let e : c.self.inside.g ≡ c.args.self.now = cc in
    (c.in_ok-text_at.field-0, subst (λ f. g.G.LabelFn.gives f c.args.index (Ok c.in_ok-text_at.field-0)) e c.in_ok-text_at.ensures, refl)
