use Rattle.tabled_table.proofs.Names.{ap, sym, width_at, ◌+◌, ◌∙◌}
use Rattle.tabled_table.proofs.Stream.Widths.{listed}
use Rattle.tabled_table.proofs.iter_table.row.CutRowRow.width.Goals as goal

pub returns : goal.returns
returns g c =
    let layout = c.args.self.now.layout.now in
    ap (λ k. k + layout.side) c.content_width.ensures ∙ sym (listed (width_at layout) layout.count c.args.column c.requires)
