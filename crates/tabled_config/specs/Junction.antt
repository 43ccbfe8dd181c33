-- The character where lines meet.
use Rattle.std.specs.Prelude.{Bool, true, false, Option, None}
use Rattle.tabled_config.specs.declared.borders.Borders.{Borders}

-- lines continue on the left, right, top, bottom: the part of the frame for this junction, or none
-- where no lines meet
abbrev pub junction : {T : Type 0} → Borders T → Bool → Bool → Bool → Bool → Option T
junction b false true false true = b.top_left
junction b true false false true = b.top_right
junction b false true true false = b.bottom_left
junction b true false true false = b.bottom_right
junction b true true false true = b.top_intersection
junction b true true true false = b.bottom_intersection
junction b false true true true = b.left_intersection
junction b true false true true = b.right_intersection
junction b true true true true = b.intersection
junction b _ _ _ _ = None
