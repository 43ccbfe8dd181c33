-- The lines of a whole pool table.
use Rattle.tabled_pool.proofs.Names.{DrawingPlan, HasColumns, Indent, List, Mark, PoolTable, Sides, [], ap, arith, drawn, drawn_line}
use Rattle.tabled_pool.proofs.Names.{framed_width, get_or, get_or-map-range_with_len, length, length-map, length-map-range_with_len}
use Rattle.tabled_pool.proofs.Names.{length-replicate, map, margin_line, margin_marks, margin_of, plan, pool_lines, replicate, sym}
use Rattle.tabled_pool.proofs.Names.{with_margin, within_margin, ℕ, ◌++◌, ◌+◌, ◌<◌, ◌∙◌, ◌≡◌}
use Rattle.std.proofs.lemmas.List.{length-append}
use Rattle.tabled_pool.specs.Pool.{total_height}
use Rattle.tabled_pool.proofs.PoolLemmas.{lined}

pub drawn-length : (t : DrawingPlan) → length (drawn t) ≡ t.height
unfolding drawn
drawn-length t = length-map-range_with_len (drawn_line t) 0 t.height

pub drawn-at : (t : DrawingPlan) (y : ℕ) → y < t.height → drawn_line t y ≡ get_or (drawn t) y []
unfolding drawn
drawn-at t y h = sym (get_or-map-range_with_len (drawn_line t) 0 t.height y y [] h (omega arith))

margin-length : (m : Sides Indent) (ms : Sides Mark) (w : ℕ) (lines : List (List ℕ))
    → length (with_margin m ms w lines) ≡ m.top.size + length lines + m.bottom.size
margin-length m ms w lines =
    let top = replicate m.top.size (margin_line m ms ms.top m.top.fill w) in
    let inner = map (within_margin m ms) lines in
    let bottom = replicate m.bottom.size (margin_line m ms ms.bottom m.bottom.fill w) in
    omega (
      arith,
      length-append top (inner ++ bottom),
      length-append inner bottom,
      length-map lines (within_margin m ms),
      length-replicate m.top.size (margin_line m ms ms.top m.top.fill w),
      length-replicate m.bottom.size (margin_line m ms ms.bottom m.bottom.fill w),
    )

pub whole_lines : (t : PoolTable) → HasColumns t → length (pool_lines t) ≡ total_height t
unfolding plan
whole_lines t h =
    let inside = margin-length (margin_of t) (margin_marks t) (framed_width t) (drawn (plan t)) in
    ap length (lined t h) ∙ omega (arith, inside, drawn-length (plan t))
