use Rattle.tabled_compact.proofs.Names.{ap, sym, ◌∙◌, ◌≡◌}
use Rattle.tabled_compact.proofs.RowPieces.{empty-piece}
use Rattle.tabled_compact.proofs.columns.CompactColumns.count_drawn_cells.Goals as goal

pub returns-then-padding-eq0-2-clause-rest : goal.returns-then-padding-eq0-2-clause-rest
returns-then-padding-eq0-2-clause-rest g c column l m =
    let t = c.args.self.now in
    let set : c.get_padding-padding.result.now ≡ t.config.padding = c.get_padding-padding.ensures ∙ ap (λ k. k.padding) c.config.ensures in
    let none = c.count_drawn.ensures.rest column l m in
    empty-piece t column
    (sym (ap (λ p. p.left.size) set) ∙ c.if-padding-eq0.true)
    (sym (ap (λ p. p.right.size) set) ∙ c.if-padding-eq0-2.true)
    none.0 none.1
