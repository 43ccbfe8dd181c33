use Rattle.tabled_pool.proofs.Names.{ltb, rules, subst, sym}
use Rattle.std.proofs.lemmas.Fn.{filter_same}
use Rattle.std.proofs.lemmas.List.Elements.{All-filter}
use Rattle.std.specs.List.{All}
use Rattle.tabled_pool.specs.TallTexts.{IsTall}
use Rattle.tabled_pool.proofs.tall_texts.remove_ended.Goals as goal

pub returns : goal.returns
returns c = λ t line all.
    subst (All (IsTall t line)) (sym (filter_same _ (λ text. ltb c.args.y text.end) _ (λ x b f' k. search rules) _ _ c.retain.ensures.filtered))
    (All-filter _ (IsTall t line) _ all)
