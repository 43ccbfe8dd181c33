use Rattle.tabled_config.specs.declared.alignment.AlignmentHorizontal.TheVariants.{Left}
use Rattle.tabled_line.proofs.Names.{refl, sym, ◌∙◌}
use Rattle.tabled_line.proofs.PlacementFacts.{realigned}
use Rattle.tabled_line.proofs.placement.KnownPlacements.of.Goals as goal

pub returns-in-Some-shared : goal.returns-in-Some-shared
returns-in-Some-shared c = λ style columns padding horizontal column within.
    realigned (c.in-Some.ensures (record (style column) { horizontal = Left }) (padding column) refl) (sym (c.in-Some-shared.ensures column) ∙ horizontal column)

pub returns-in-None : goal.returns-in-None
returns-in-None c = λ style columns padding horizontal column within.
    realigned (c.in-Some.ensures (record (style column) { horizontal = Left }) (padding column) refl) (horizontal column)
