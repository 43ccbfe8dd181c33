use Rattle.tabled_table.proofs.Names.{ChangesEach, take}
use Rattle.tabled_table.proofs.applying.change_parts.Given as goal

abbrev pub invariant-loop-entity : goal.invariant-loop-entity
invariant-loop-entity g l =
    ChangesEach (g.O.CellOption.changes l.option) (take l.entity-index l.entities) l.fn.records l.fn.config l.records l.config
