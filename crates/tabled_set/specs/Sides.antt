-- The sizes and characters of margins and paddings.
use Rattle.std.specs.Prelude.{ℕ}
use Rattle.tabled_config.specs.declared.sides.Indent.{Indent}
use Rattle.tabled_config.specs.declared.sides.Sides.{Sides}

-- spaces on each side, in columns and lines
abbrev pub spaced : ℕ → ℕ → ℕ → ℕ → Sides Indent
spaced left right top bottom =
    record {
      left = record { size = left; fill = 32 };
      right = record { size = right; fill = 32 };
      top = record { size = top; fill = 32 };
      bottom = record { size = bottom; fill = 32 };
    }

-- the same sizes, filled with other characters
abbrev pub filled : Sides Indent → ℕ → ℕ → ℕ → ℕ → Sides Indent
filled sides left right top bottom =
    record {
      left = record { size = sides.left.size; fill = left };
      right = record { size = sides.right.size; fill = right };
      top = record { size = sides.top.size; fill = top };
      bottom = record { size = sides.bottom.size; fill = bottom };
    }
