use Rattle.tabled_line.proofs.Names.{arith, false, sym, true, ◌≡◌}
use Rattle.tabled_line.proofs.cell_lines.RowLine.only.Goals as goal

pub returns-clause-line : goal.returns-clause-line
returns-clause-line c = λ row one.
    record {
      index_in = omega arith;
      height_is = sym one;
      top_is = λ top. absurd (let no : false ≡ true = top in cc);
      cursors_are = λ column within. absurd (omega (arith, within));
    }
