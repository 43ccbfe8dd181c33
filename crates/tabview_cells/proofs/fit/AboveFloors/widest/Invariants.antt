use Rattle.tabview_cells.proofs.Widest.{BestBelow}
use Rattle.tabview_cells.proofs.fit.AboveFloors.widest.Given as goal

abbrev pub invariant-loop-column : goal.invariant-loop-column
invariant-loop-column l = BestBelow l.self.floors.now l.values l.mins l.column l.best l.most
