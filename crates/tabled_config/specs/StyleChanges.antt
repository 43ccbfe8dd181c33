-- Lines that are taken out of a style, and lines by index that are put into it.
use Rattle.std.specs.Prelude.{ℕ, List, [], None}
use Rattle.std.specs.List.{fold}
use Rattle.tabled_config.specs.Lines.{with_line}
use Rattle.tabled_config.specs.declared.borders.Borders.{Borders}
use Rattle.tabled_config.specs.declared.borders.HorizontalLine.{HorizontalLine}
use Rattle.tabled_config.specs.declared.spanned.SpannedConfig.{SpannedConfig}
use Rattle.tabled_config.specs.declared.style.Style.{Style}

-- ---- borders without some of their lines

abbrev pub no_horizontal : Borders ℕ → Borders ℕ
no_horizontal b = record b { horizontal = None; left_intersection = None; right_intersection = None; intersection = None }

abbrev pub no_vertical : Borders ℕ → Borders ℕ
no_vertical b = record b { vertical = None; top_intersection = None; bottom_intersection = None; intersection = None }

abbrev pub no_top : Borders ℕ → Borders ℕ
no_top b = record b { top = None; top_left = None; top_right = None; top_intersection = None }

abbrev pub no_bottom : Borders ℕ → Borders ℕ
no_bottom b = record b { bottom = None; bottom_left = None; bottom_right = None; bottom_intersection = None }

abbrev pub no_left : Borders ℕ → Borders ℕ
no_left b = record b { left = None; top_left = None; bottom_left = None; left_intersection = None }

abbrev pub no_right : Borders ℕ → Borders ℕ
no_right b = record b { right = None; top_right = None; bottom_right = None; right_intersection = None }

abbrev pub no_frame : Borders ℕ → Borders ℕ
no_frame b = no_right (no_left (no_bottom (no_top b)))

-- ---- the same of a style; the line below its first row stays

abbrev pub without_horizontal : Style → Style
without_horizontal style = record style { borders = no_horizontal style.borders }

abbrev pub without_vertical : Style → Style
without_vertical style = record style { borders = no_vertical style.borders }

abbrev pub without_top : Style → Style
without_top style = record style { borders = no_top style.borders }

abbrev pub without_bottom : Style → Style
without_bottom style = record style { borders = no_bottom style.borders }

abbrev pub without_left : Style → Style
without_left style = record style { borders = no_left style.borders }

abbrev pub without_right : Style → Style
without_right style = record style { borders = no_right style.borders }

abbrev pub without_frame : Style → Style
without_frame style = record style { borders = no_frame style.borders }

-- without the line below the first row
abbrev pub without_horizontals : Style → Style
without_horizontals style = record style { below_first = None }

-- ---- lines by index

-- lines that are set in turn: the latest of an index stays
abbrev pub lines_in_turn : List (ℕ × HorizontalLine) → List (ℕ × HorizontalLine)
lines_in_turn lines = fold (λ all line. with_line all line.0 line.1) [] lines

-- borders, and lines by index in place of all others
abbrev pub with_lines : SpannedConfig → Borders ℕ → List (ℕ × HorizontalLine) → SpannedConfig
with_lines config borders lines = record config { borders = borders; lines = lines_in_turn lines }
