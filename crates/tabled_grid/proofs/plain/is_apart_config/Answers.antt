use Rattle.tabled_grid.proofs.Names.{false, sym, true, ◌∙◌, ◌≡◌}
use Rattle.tabled_grid.proofs.plain.is_apart_config.Goals as goal
use Rattle.tabled_grid.proofs.plain.is_apart_config.Goals.{then-is_apart_around, else-is_apart_around}

pub returns-then-are_additive_rules : goal.returns-then-are_additive_rules
returns-then-are_additive_rules c =
    elim c.if-is_apart_around.branch [
      | then-is_apart_around w ↦ (
        λ e. let around = rw c.frame.ensures at (c.is_apart_around.ensures.0 w.if-is_apart_around.true) in
            record {
              margin_top = around.1;
              margin_bottom = around.2;
              rules = w.are_additive_rules.ensures.0 (sym w.value-is ∙ c.if-are_additive_rules.true);
              cells = c.are_apart_rows.ensures.0 e;
              frame = around.0;
            },
        λ apart. c.are_apart_rows.ensures.1 apart.cells,
      )
      | else-is_apart_around w ↦ absurd
          (let clash : false ≡ true = sym w.if-is_apart_around.false ∙ (sym w.value-is ∙ c.if-are_additive_rules.true) in cc)
    ]
