use Rattle.tabled_table.proofs.Names.{CompactConfig, HasPut, List, Sent, [], length, map, take, ℕ, ◌≡◌}
use Rattle.tabled_table.proofs.iter_table.stream.Stream.write_first_rows.Given as goal

abbrev pub invariant-rows : goal.invariant-rows
invariant-rows g l = record {
  same : l.self.lines.columns ≡ l.initial.self.lines.columns;
  puts : (config : CompactConfig) (ahead_rows : List (List (List ℕ))) (start : Sent) → length ahead_rows ≡ l.ahead
      → HasPut l.initial.self.lines.columns.settings.now config ahead_rows [] start l.initial.self.lines.columns.layout.now l.initial.self.first
      (g.S.TextSink.sent l.initial.sink) l.initial.self.lines.begun
      → HasPut l.initial.self.lines.columns.settings.now config ahead_rows (take l.index (take l.shown (map (map g.C.CellText.text) l.rows))) start l.initial.self.lines.columns.layout.now
      l.self.first (g.S.TextSink.sent l.sink) l.self.lines.begun;
}
