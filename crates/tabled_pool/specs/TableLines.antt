-- Of private steps: no public call promises this.
-- The lines of a table without its margin.
use Rattle.std.specs.Prelude.{ℕ, List, map}
use Rattle.tabled_line.specs.Fill.{fill}
use Rattle.tabled_pool.specs.declared.table_lines.LineContent.{LineContent}
use Rattle.tabled_pool.specs.declared.table_lines.LineContent.TheVariants as content
use Rattle.tabled_pool.specs.declared.table_lines.TableLines.{TableLines}
use Rattle.tabled_pool.specs.declared.table_lines.TableLines.TheVariants.{Placed, Drawn}
use Rattle.tabled_pool.specs.Colours.{coloured, mark_of}
use Rattle.tabled_pool.specs.Drawn.{drawn, drawn_line}
use Rattle.tabled_pool.specs.Inherited.{BlockSheet, block_sheet_of}
use Rattle.tabled_pool.specs.Numbers.{AreSized}
use Rattle.tabled_pool.specs.Plan.{plan_of}
use Rattle.tabled_pool.specs.Boxes.{drawn_part}
use Rattle.tabled_pool.specs.TallTexts.{AreTall}
use Rattle.tabled_pool.specs.declared.sweep.Sweep.{Sweep}

abbrev pub sheet_of : TableLines → BlockSheet
sheet_of (Placed d) = record { width = d.now.width; lines = drawn (plan_of d.now) }
sheet_of (Drawn b) = block_sheet_of b.now

-- the texts of placed pieces have columns and lines
abbrev pub AreSizedLines : TableLines → Type 0
AreSizedLines (Placed d) = AreSized (map drawn_part d.now.pieces.now)
AreSizedLines (Drawn b) = Unit {0}

-- the texts of several lines have their cursors in line y
abbrev pub IsSwept : TableLines → ℕ → Sweep → Type 0
IsSwept (Placed d) y sweep = AreTall (plan_of d.now) y sweep.texts
IsSwept (Drawn b) y sweep = Unit {0}

abbrev pub content_of : LineContent → List ℕ
content_of (content.Fill color c width) = coloured (mark_of color) (fill c width)
content_of (content.Placed l) = drawn_line (plan_of l.drawing.now) l.y
content_of (content.Text s) = s.now
