use Rattle.tabled_compact.proofs.Names.{ap, arith, fitting_width, length, map, min, range_with_len, rules, sym, take, ◌+◌, ◌<◌, ◌∙◌, ◌≡◌}
use Rattle.std.proofs.Math.Seq.{take-length}
use Rattle.tabled_compact.proofs.Widths.{written-next}
use Rattle.tabled_compact.proofs.sizes.ArrayArrayCellRows.fitting_widths.Goals as goal

pub columns-preserved : goal.columns-preserved
columns-preserved g c =
    let cells = map (map g.T.CellText.text) c.args.self.now in
    let inside : c.columns.column < length c.columns.widths = omega arith in
    record {
      sized = search rules;
      written = written-next (fitting_width cells) c.columns.widths c.columns.column c.saturating_add.result inside
          c.columns.invariant.written
          (c.saturating_add.ensures ∙ ap (λ widest. min (widest + 2) 18446744073709551615) c.widest_cell.ensures);
    }

pub returns : goal.returns
returns g c =
    let cells = map (map g.T.CellText.text) c.args.self.now in
    let full : length c.columns.widths ≡ c.columns.column = omega arith in
    let all : c.columns.column ≡ g.row.COLUMNS = omega arith in
    sym (take-length c.columns.widths)
    ∙ ap (λ n. take n c.columns.widths) full
    ∙ c.columns.invariant.written
    ∙ ap (λ n. map (fitting_width cells) (range_with_len 0 n)) all
