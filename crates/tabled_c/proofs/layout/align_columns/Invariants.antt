use Rattle.std.proofs.Common.{◌≡◌, drop}
use Rattle.tabled_c.specs.Asked.{with_alignments}
use Rattle.tabled_c.proofs.layout.align_columns.Given as goal

abbrev pub invariant-columns : goal.invariant-columns
invariant-columns l = with_alignments l.column (drop l.column l.alignments) l.config ≡ with_alignments 0 l.alignments l.initial.config
