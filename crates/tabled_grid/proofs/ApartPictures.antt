-- Each line of a picture takes the table's columns, whatever texts the cells are.
use Rattle.tabled_grid.proofs.Names.{EachLineTakes, Holds, HorizontalLine, IsAdditiveRule, IsRectangular, Sheet, [], arith, cell_at, columns}
use Rattle.tabled_grid.proofs.Names.{sheet_columns, filled_width, get_or, length, line_columns, line_total, picture, plain_rule_line, row_line}
use Rattle.tabled_grid.proofs.Names.{fill, frame, plain-fill, row_of, rule_line, slice_index, total_width, ℕ, ◌<◌, ◌≡◌}
use Rattle.std.specs.Str.{IsUtf8}
use Rattle.tabled_text.specs.Plain.{IsAdditiveColumn}
use Rattle.tabled_line.specs.Apart.{HoldsTexts, IsApartRow}
use Rattle.tabled_line.proofs.ApartLines.{row_line_takes}
use Rattle.tabled_size.specs.TextCells.{AreTexts}
use Rattle.tabled_grid.specs.ApartSheet.{IsApartConfig}
use Rattle.tabled_grid.proofs.Whole.{picture_takes}

-- what the columns of a picture rest on
record IsApartSheet (t : Sheet) : Type 0 where
  config : IsApartConfig t.config (length t.cells) (columns t.cells)
  texts : AreTexts t.cells
  rectangular : IsRectangular t.cells
  holds : Holds t

text-cell : (t : Sheet) (row column : ℕ) → IsApartSheet t → row < length t.cells → column < columns t.cells → IsUtf8 (cell_at t.cells row column)
text-cell t row column p r c =
    let long : length (get_or t.cells row []) ≡ columns t.cells = p.rectangular row [] r in
    p.texts row [] r column [] (omega arith)

apart-row : (t : Sheet) (row : ℕ) → IsApartSheet t → row < length t.cells → IsApartRow (row_of t row)
apart-row t row p r = record { frame = p.config.frame; cells = p.config.cells row r }

holds-row : (t : Sheet) (row : ℕ) → IsApartSheet t → row < length t.cells → HoldsTexts (row_of t row)
holds-row t row p r = record { texts = λ c k. text-cell t row c p r k; fits = λ c k. p.holds row c r k }

row_takes : (t : Sheet) (row index : ℕ) → IsApartSheet t → row < length t.cells → index < slice_index t.heights row
    → line_columns (row_line (row_of t row) index) ≡ filled_width t.config (columns t.cells) t.widths
unfolding filled_width line_total
row_takes t row index p r m = row_line_takes (row_of t row) index (apart-row t row p r) (holds-row t row p r) m

rule_takes : (t : Sheet) (line : HorizontalLine) → IsApartSheet t → IsAdditiveRule line
    → line_columns (rule_line (sheet_columns t) line) ≡ filled_width t.config (columns t.cells) t.widths
unfolding filled_width line_total
rule_takes t line p q = (plain_rule_line (sheet_columns t) line p.config.frame.margin_left.additive p.config.frame.margin_right.additive q).columns

fill_takes : (t : Sheet) (c : ℕ) → IsAdditiveColumn c → line_columns (fill c (filled_width t.config (columns t.cells) t.widths))
    ≡ filled_width t.config (columns t.cells) t.widths
fill_takes t c h = (plain-fill c (filled_width t.config (columns t.cells) t.widths) h).columns

-- each line of the picture takes the table's columns, whatever texts the cells are
pub apart_columns : (t : Sheet) → IsApartConfig t.config (length t.cells) (columns t.cells) → AreTexts t.cells → IsRectangular t.cells → Holds t
    → EachLineTakes (total_width t) (picture t)
apart_columns t config texts rectangular holds =
    let p : IsApartSheet t = record { config = config; texts = texts; rectangular = rectangular; holds = holds } in
    picture_takes t (record {
      row = λ row i l m. row_takes t row i p l m;
      rule = λ i line b e. rule_takes t line p (config.rules i b line e);
      margin_top = fill_takes t (frame t.config).margin.top.fill config.margin_top;
      margin_bottom = fill_takes t (frame t.config).margin.bottom.fill config.margin_bottom;
    })
