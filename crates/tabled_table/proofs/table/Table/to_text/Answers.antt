use Rattle.tabled_table.proofs.Names.{arith, rules, sheet, subst, sym, table_text, ◌≡◌}
use Rattle.std.proofs.lemmas.Grind.{common_steps}
use Rattle.std.specs.Prelude.{string_bytes}
use Rattle.tabled_table.proofs.PrintedLines.{text_shows}
use Rattle.tabled_table.specs.PrintedLines.{HasTableLines}
use Rattle.tabled_table.proofs.table.Table.to_text.Goals as goal

pub returns-clause-lines : goal.returns-clause-lines
returns-clause-lines c =
    let t = sheet c.args.self.now in
    let same : string_bytes c.write_to.new.sink ≡ table_text t = first_of (search rules, grind (arith, common_steps)) in
    λ straight some. subst (λ bytes. HasTableLines t bytes) (sym same) (c.in_ok-write_to.ensures.lines straight some)

pub returns-clause-cells : goal.returns-clause-cells
returns-clause-cells c =
    let same : string_bytes c.write_to.new.sink ≡ table_text (sheet c.args.self.now) = first_of (search rules, grind (arith, common_steps)) in
    text_shows c.args.self.now (string_bytes c.write_to.new.sink) same
