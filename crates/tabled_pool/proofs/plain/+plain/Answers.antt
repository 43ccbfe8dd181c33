use Rattle.tabled_pool.proofs.Names.{EachText, IsPlain, arith, rules, subst, sym, tree_of}
use Rattle.std.proofs.Common.{IsTrue}
use Rattle.std.proofs.lemmas.List.{take_all}
use Rattle.tabled_pool.proofs.TreeTexts.{AllIn, all-each, each-all}
use Rattle.tabled_pool.proofs.plain.+plain.Goals as goal

pub are_plain_values-returns-then-not-is_plain_value : goal.are_plain_values-returns-then-not-is_plain_value
are_plain_values-returns-then-not-is_plain_value t c = (
  λ f. search rules,
  λ h. let p : IsTrue c.is_plain_value.result = c.is_plain_value.ensures.1
      (subst (λ v. EachText IsPlain (tree_of v)) (sym c.value-item.is)
      (all-each IsPlain c.args.values.now h c.loop-value.value-index c.value-item.result (omega arith))) in search rules,
)

pub are_plain_values-returns : goal.are_plain_values-returns
are_plain_values-returns t c = (
  λ f. each-all IsPlain c.args.values.now
      (subst (AllIn IsPlain) (take_all c.loop-value.value-index c.args.values.now (omega arith)) c.loop-value.invariant),
  λ h. search rules,
)
