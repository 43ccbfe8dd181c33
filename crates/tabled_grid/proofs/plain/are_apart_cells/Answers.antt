use Rattle.tabled_grid.proofs.Names.{false, sym, true, ◌∙◌, ◌≡◌}
use Rattle.tabled_grid.proofs.plain.are_apart_cells.Goals as goal
use Rattle.tabled_grid.proofs.plain.are_apart_cells.Goals.{then-are_apart_styles_in, else-are_apart_styles_in}

pub returns-then-has_steady_bars : goal.returns-then-has_steady_bars
returns-then-has_steady_bars c =
    elim c.if-are_apart_styles_in.branch [
      | then-are_apart_styles_in w ↦ (
        λ e. record {
          styles = c.are_apart_styles_in.ensures.0 w.if-are_apart_styles_in.true;
          bars = w.has_steady_bars.ensures.0 (sym w.value-is ∙ c.if-has_steady_bars.true);
          gaps = c.has_separators.ensures.0 e;
        },
        λ all. c.has_separators.ensures.1 all.gaps,
      )
      | else-are_apart_styles_in w ↦ absurd
          (let clash : false ≡ true = sym w.if-are_apart_styles_in.false ∙ (sym w.value-is ∙ c.if-has_steady_bars.true) in cc)
    ]
