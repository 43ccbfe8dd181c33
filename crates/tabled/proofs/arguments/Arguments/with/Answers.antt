use Rattle.tabled.proofs.Names.{refl}
use Rattle.tabled.specs.declared.arguments.Argument.TheVariants.{Wrap, Cut, Priority}
use Rattle.tabled.proofs.Noting.{notes_as}
use Rattle.tabled.proofs.arguments.Arguments.with.Goals as goal

pub returns-in_default : goal.returns-in_default
returns-in_default c = notes_as Wrap c.args.self _ _ c.args.self.wrap c.in-Wrap.is c.if-is_none.ensures (λ old e. e) (λ old. refl)

pub returns-in_default-2 : goal.returns-in_default-2
returns-in_default-2 c = notes_as Cut c.args.self _ _ c.args.self.cut c.in-Cut.is c.if-is_none-2.ensures (λ old e. e) (λ old. refl)

pub returns-in_default-3 : goal.returns-in_default-3
returns-in_default-3 c =
    notes_as Priority c.args.self _ _ c.args.self.order c.in-Priority.is c.if-is_none-3.ensures (λ old e. e) (λ old. refl)
