use Rattle.tabled_table.proofs.Names.{ap, arith, get_or_past, length, sym, width_at, ℕ, ◌+◌, ◌∙◌, ◌≡◌, ◌≤◌}
use Rattle.tabled_table.proofs.Stream.Widths.{listed}
use Rattle.tabled_table.proofs.iter_table.row.StreamColumnsTableColumns.alike_from.Goals as goal

pub returns : goal.returns
returns c column l m =
    let layout = c.args.self.now.layout.now in
    let n = c.len.result in
    let past : (k : ℕ) → length layout.contents.items ≤ k → width_at layout k ≡ layout.rest + layout.side =
    λ k h. ap (λ w. w + layout.side) (get_or_past layout.contents.items k layout.rest h) in
    listed (width_at layout) layout.count column m ∙ past column (omega (arith, l, c.len.ensures))
    ∙ sym (listed (width_at layout) layout.count n (omega (arith, l, m)) ∙ past n (omega (arith, c.len.ensures)))
