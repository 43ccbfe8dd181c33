-- The characters of the styles.
use Rattle.std.specs.Prelude.{ℕ, ◌==◌, if◌then◌else◌, Option, Some, None}
use Rattle.tabled_config.specs.declared.borders.HorizontalLine.{HorizontalLine}
use Rattle.tabled_config.specs.declared.style.Style.{Style}
use Rattle.tabled_config.specs.Frame.{no_borders}

-- a complete horizontal line; the parameters are in drawing order
abbrev pub line : ℕ → ℕ → ℕ → ℕ → HorizontalLine
line left main intersection right = record { main = Some main; left = Some left; intersection = Some intersection; right = Some right }

-- a frame of three horizontal lines, with one character for all vertical lines and no line by index
abbrev pub framed : HorizontalLine → HorizontalLine → HorizontalLine → ℕ → Style
framed top inner bottom vertical =
    record {
      borders =
          record {
            top = top.main;
            top_left = top.left;
            top_right = top.right;
            top_intersection = top.intersection;
            bottom = bottom.main;
            bottom_left = bottom.left;
            bottom_right = bottom.right;
            bottom_intersection = bottom.intersection;
            horizontal = inner.main;
            left_intersection = inner.left;
            right_intersection = inner.right;
            intersection = inner.intersection;
            vertical = Some vertical;
            left = Some vertical;
            right = Some vertical;
          };
      below_first = None;
    }

-- no line
abbrev pub no_line : HorizontalLine
no_line = record { main = None; left = None; intersection = None; right = None }

-- a frame with a line below the first row, and none between other rows
abbrev pub boxed : HorizontalLine → HorizontalLine → HorizontalLine → ℕ → Style
boxed top below bottom vertical = record { borders = (framed top no_line bottom vertical).borders; below_first = Some below }

-- + - + +, and | between
abbrev pub ascii : Style
ascii = let rule = line 0x2b 0x2d 0x2b 0x2b in framed rule rule rule 0x7c

-- ┌ ─ ┬ ┐, ├ ─ ┼ ┤, └ ─ ┴ ┘, and │ between
abbrev pub modern : Style
modern = framed (line 0x250c 0x2500 0x252c 0x2510) (line 0x251c 0x2500 0x253c 0x2524) (line 0x2514 0x2500 0x2534 0x2518) 0x2502

-- the same, with ├ ─ ┼ ┤ below the first row alone
abbrev pub sharp : Style
sharp = boxed (line 0x250c 0x2500 0x252c 0x2510) (line 0x251c 0x2500 0x253c 0x2524) (line 0x2514 0x2500 0x2534 0x2518) 0x2502

-- ╭ ─ ┬ ╮, ├ ─ ┼ ┤ below the first row alone, ╰ ─ ┴ ╯, and │ between
abbrev pub rounded : Style
rounded = boxed (line 0x256d 0x2500 0x252c 0x256e) (line 0x251c 0x2500 0x253c 0x2524) (line 0x2570 0x2500 0x2534 0x256f) 0x2502

-- the same, with ├ ─ ┼ ┤ between all rows
abbrev pub modern_rounded : Style
modern_rounded = framed (line 0x256d 0x2500 0x252c 0x256e) (line 0x251c 0x2500 0x253c 0x2524) (line 0x2570 0x2500 0x2534 0x256f) 0x2502

-- . - - ., ' - - ', and | between; no line between rows
abbrev pub ascii_rounded : Style
ascii_rounded = framed (line 0x2e 0x2d 0x2d 0x2e) no_line (line 0x27 0x2d 0x2d 0x27) 0x7c

-- ╔ ═ ╦ ╗, ╠ ═ ╬ ╣, ╚ ═ ╩ ╝, and ║ between
abbrev pub extended : Style
extended = framed (line 0x2554 0x2550 0x2566 0x2557) (line 0x2560 0x2550 0x256c 0x2563) (line 0x255a 0x2550 0x2569 0x255d) 0x2551

-- | on both sides and between columns; | - | | below the first row
abbrev pub markdown : Style
markdown =
    record {
      borders = record (no_borders {T = ℕ}) { vertical = Some 0x7c; left = Some 0x7c; right = Some 0x7c };
      below_first = Some (line 0x7c 0x2d 0x7c 0x7c);
    }

-- | between columns; below the first row a line of - and +, without ends
abbrev pub psql : Style
psql =
    record {
      borders = record (no_borders {T = ℕ}) { vertical = Some 0x7c };
      below_first = Some (record { main = Some 0x2d; left = None; intersection = Some 0x2b; right = None });
    }

-- = with spaces between columns: above the table, below it and below the first row
abbrev pub re_structured_text : Style
re_structured_text =
    record {
      borders =
          record (no_borders {T = ℕ}) {
            top = Some 0x3d;
            top_intersection = Some 0x20;
            bottom = Some 0x3d;
            bottom_intersection = Some 0x20;
            vertical = Some 0x20;
          };
      below_first = Some (record { main = Some 0x3d; left = None; intersection = Some 0x20; right = None });
    }

-- spaces between columns
abbrev pub blank : Style
blank = record { borders = record (no_borders {T = ℕ}) { vertical = Some 0x20 }; below_first = None }

-- no lines
abbrev pub no_style : Style
no_style = record { borders = no_borders; below_first = None }

-- the line that a style sets above a row: only below the first row
abbrev pub style_line : Style → ℕ → Option HorizontalLine
style_line style row = if row == 1 then style.below_first else None
