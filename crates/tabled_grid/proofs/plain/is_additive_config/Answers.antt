use Rattle.tabled_grid.proofs.Names.{false, sym, true, ◌∙◌, ◌≡◌}
use Rattle.tabled_grid.proofs.plain.is_additive_config.Goals as goal
use Rattle.tabled_grid.proofs.plain.is_additive_config.Goals.{then-is_additive_frame, else-is_additive_frame}

pub returns-then-are_additive_rules : goal.returns-then-are_additive_rules
returns-then-are_additive_rules c =
    elim c.if-is_additive_frame.branch [
      | then-is_additive_frame w ↦ (
        λ e. record {
          frame = rw c.frame.ensures at (c.is_additive_frame.ensures.0 w.if-is_additive_frame.true);
          rules = w.are_additive_rules.ensures.0 (sym w.value-is ∙ c.if-are_additive_rules.true);
          styles = c.are_additive_styles.ensures.0 e;
        },
        λ plain. c.are_additive_styles.ensures.1 plain.styles,
      )
      | else-is_additive_frame w ↦ absurd
          (let clash : false ≡ true = sym w.if-is_additive_frame.false ∙ (sym w.value-is ∙ c.if-are_additive_rules.true) in cc)
    ]
