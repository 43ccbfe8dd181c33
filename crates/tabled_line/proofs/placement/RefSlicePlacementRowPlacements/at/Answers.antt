use Rattle.tabled_line.proofs.Names.{ap, length, rules, subst, sym, ◌<◌, ◌∙◌}
use Rattle.tabled_line.proofs.PlacementFacts.{cell-known, known-within}
use Rattle.tabled_line.specs.Placements.{IsPlaceable, placement_of}
use Rattle.tabled_line.proofs.placement.RefSlicePlacementRowPlacements.at.Goals as goal

pub offset_bounds-self-column : goal.offset_bounds-self-column
offset_bounds-self-column c =
    let within : c.args.column < length c.args.self.now.now = known-within c.requires.known c.requires.inside in search rules

pub bounds-self-column : goal.bounds-self-column
bounds-self-column c = known-within c.requires.known c.requires.inside

pub returns : goal.returns
returns c = λ row placements within width.
    let column = c.args.column in (
      cell-known placements within ∙ ap (placement_of (row.style column)) (sym width),
      subst (IsPlaceable (row.style column)) (sym width) (placements.placeable column within),
    )
