use Rattle.tabled_extended.proofs.Names.{false}
use Rattle.tabled_extended.specs.PrintedRecords.{sheet_of}
use Rattle.tabled_extended.proofs.Records.{PrintedSoFar}
use Rattle.tabled_extended.proofs.extended_table.ExtendedTable.write_to.Given as goal

abbrev pub invariant-records : goal.invariant-records
invariant-records g l =
    PrintedSoFar (sheet_of g.F.Template.answers g.F.Template.fails l.self) l.index
    (g.S.TextSink.sent l.initial.sink) false (g.S.TextSink.sent l.sink) l.begun
