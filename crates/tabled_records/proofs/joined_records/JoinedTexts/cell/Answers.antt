use Rattle.tabled_records.proofs.Names.{AreLines, [], ap, arith, cell_at, get_or, length, lines_of, rows_in, string_bytes, subst, sym}
use Rattle.tabled_records.proofs.Names.{texts_from, ◌∙◌, ◌≡◌}
use Rattle.tabled_records.specs.Joined.{IsCell}
use Rattle.tabled_records.proofs.Joining.{length-texts, told_empty}
use Rattle.tabled_records.proofs.Rows.{ranges-grown}
use Rattle.tabled_records.proofs.joined_records.JoinedTexts.cell.Goals as goal

pub cell-requires-clause-ranges : goal.cell-requires-clause-ranges
cell-requires-clause-ranges c =
    ranges-grown (length c.args.self.now) (length c.self.inside.ends) c.args.rows.now c.requires.ranges
    (omega (arith, ap length c.self.view_is, length-texts 0 (string_bytes c.self.inside.whole) 0 c.self.inside.ends))

pub returns-in-Some : goal.returns-in-Some
returns-in-Some c =
    let at = c.args.at in
    let place = c.in-Some.place in
    let all = ap (λ bytes. texts_from 0 bytes 0 c.self.inside.ends) c.as_str.ensures.value ∙ c.self.view_is in
    let own = subst (λ texts. IsCell texts (cell_at (rows_in texts c.args.rows.now) at.row at.column) c.in-Some.text.now c.in-Some.columns place)
    all c.in-Some.ensures in
    let told = subst (λ texts. AreLines texts c.self.inside.lines.items) c.self.view_is c.self.invariant.kept.told in
    record {
      same = own.same;
      wide = own.wide;
      high = c.lines_at.ensures ∙ ap (λ lines. get_or lines place 1) c.deref.ensures.value ∙ told place own.there
          ∙ ap (λ text. length (lines_of text)) own.found;
    }

pub returns-in-None : goal.returns-in-None
returns-in-None c =
    let at = c.args.at in
    let all = ap (λ bytes. texts_from 0 bytes 0 c.self.inside.ends) c.as_str.ensures.value ∙ c.self.view_is in
    let none : cell_at (rows_in c.args.self.now c.args.rows.now) at.row at.column ≡ [] =
    ap (λ texts. cell_at (rows_in texts c.args.rows.now) at.row at.column) (sym all) ∙ c.in-None.ensures in
    told_empty none
