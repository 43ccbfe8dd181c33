-- How wide the output is, and whether a hint may follow it.
use Rattle.std.specs.Prelude.{ℕ, ◌+◌, ◌-◌, ◌^◌, ◌==◌, ◌&&◌, Bool, if◌then◌else◌, is_none, max, min}
use Rattle.std.specs.Int.{is_in_range}
use Rattle.tabview_options.specs.declared.options.Options.{Options}
use Rattle.tabview_show.specs.declared.hint.Widths.{Widths}

-- a table that is too wide for the terminal brings a hint
abbrev pub wants_hint : Options → Bool
wants_hint options = is_none options.look.width && is_none options.stream

-- the characters of the line that is begun, and of the longest one before it, after one more byte
abbrev pub widths_after : Widths → ℕ → Widths
widths_after w c =
    if c == 10 then record { line = 0; longest = max w.longest w.line }
    else if is_in_range 0x80 0xBF c then w
    else record w { line = min (w.line + 1) (2 ^ 64 - 1) }
