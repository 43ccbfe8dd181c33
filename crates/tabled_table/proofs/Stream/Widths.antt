-- Widths that are listed and summed up.
use Rattle.tabled_table.proofs.Names.{CompactConfig, Frame, IsLaidOut, Layout, List, MatchOption, None, Option, Some, StreamSettings}
use Rattle.tabled_table.proofs.Names.{get_or_past, ap, arith, column_count, filled_width, frame, get_or-map-range_with_len, length, map}
use Rattle.tabled_table.proofs.Names.{min, range_with_len, refl, slice_index, spanned_of_compact, stream_total, stream_width, stream_widths}
use Rattle.tabled_table.proofs.Names.{suc, sum_below, sum_step, sym, width_at, zero, ℕ, ◌*◌, ◌+◌, ◌-◌, ◌<◌, ◌^◌, ◌∙◌, ◌≡◌, ◌≤◌}
use Rattle.std.proofs.Common.{Bool, false, true, zero-add}
use Rattle.std.specs.Int.{from_bool}
use Rattle.tabled_priority.specs.Laws.Sums.{sum_below-same}
use Rattle.tabled_priority.specs.Sums.{one_if}
use Rattle.tabled_table.specs.Stream.Row.{layout_total}

pub listed : (f : ℕ → ℕ) (n k : ℕ) → k < n → slice_index (map f (range_with_len 0 n)) k ≡ f k
listed f n k h = get_or-map-range_with_len f 0 n k k 0 h (zero-add k)

pub none-of : (o : Option ℕ) (n : ℕ) → o ≡ None → 2 ^ 64 ≤ n → MatchOption o (2 ^ 64 ≤ n) (λ k. k ≡ n)
none-of None n e h = h
none-of (Some k) n e h = absurd (cc)

sum-same : (f : ℕ → ℕ) (n more w : ℕ) → ((k : ℕ) → n ≤ k → f k ≡ w) → sum_below f (n + more) ≡ sum_below f n + more * w
sum-same f n zero w h = ap (sum_below f) (let e : n + 0 ≡ n = omega arith in e) ∙ (let e : sum_below f n ≡ sum_below f n + 0 * w = omega arith in e)
sum-same f n (suc k) w h =
    let step : n + suc k ≡ suc (n + k) = omega arith in
    let so_far = sum-same f n k w h in
    let here = h (n + k) (omega arith) in
    ap (sum_below f) step ∙ (let e : sum_below f (n + k) + f (n + k) ≡ sum_below f n + suc k * w = omega arith in e)

-- the widths of all columns are those of the known ones and of the others
pub sum-widths : (layout : Layout) (known more : ℕ) → known ≡ min layout.count (length layout.contents.items) → more ≡ layout.count - known
    → sum_below (width_at layout) layout.count ≡ sum_below (width_at layout) known + more * (layout.rest + layout.side)
sum-widths layout known zero k m =
    let e : layout.count ≡ known = omega arith in
    ap (sum_below (width_at layout)) e
    ∙ (let z : sum_below (width_at layout) known ≡ sum_below (width_at layout) known + 0 * (layout.rest + layout.side) = omega arith in z)
sum-widths layout known (suc more) k m =
    let e : layout.count ≡ known + suc more = omega arith in
    ap (sum_below (width_at layout)) e
    ∙ sum-same (width_at layout) known (suc more) (layout.rest + layout.side)
    (λ n h. ap (λ c. c + layout.side) (get_or_past layout.contents.items n layout.rest (omega arith)))

-- a column is no wider than the whole
pub width-in-total : (layout : Layout) (column : ℕ) → column < layout.count → width_at layout column ≤ layout_total layout
unfolding layout_total
width-in-total layout column h = let s = sum_step (width_at layout) column layout.count h in omega arith

pub as_number : (there : Bool) → from_bool there ≡ one_if there
as_number true = refl
as_number false = refl

module _ {settings : StreamSettings} {config : CompactConfig} {ahead_rows : List (List (List ℕ))} where
  -- the columns of a layout are those of the whole table
  pub total-laid : {layout : Layout} → IsLaidOut settings config ahead_rows layout → layout_total layout ≡ stream_total settings config ahead_rows
  unfolding layout_total filled_width
  total-laid {layout} l =
      let same : sum_below (width_at layout) layout.count
      ≡ sum_below (slice_index (stream_widths settings config ahead_rows)) (column_count settings ahead_rows) =
      sum_below-same (width_at layout) (stream_width settings config ahead_rows) layout.count
      (λ k h. let e = l.contents k h in let s = l.side in omega arith)
      ∙ ap (sum_below (stream_width settings config ahead_rows)) l.count
      ∙ sum_below-same (stream_width settings config ahead_rows) (slice_index (stream_widths settings config ahead_rows)) (column_count settings ahead_rows)
      (λ k h. sym (listed (stream_width settings config ahead_rows) (column_count settings ahead_rows) k h)) in
      let F : Frame → ℕ → ℕ → ℕ = λ f n s.
      (f.margin.left.size + one_if f.left.there) + ((s + (n - 1) * one_if f.inner.there) + (one_if f.right.there + f.margin.right.size)) in
      ap (λ f. F f layout.count (sum_below (width_at layout) layout.count)) l.around
      ∙ ap (λ s. F (frame (spanned_of_compact config)) layout.count s) same
      ∙ ap (λ n. F (frame (spanned_of_compact config)) n
      (sum_below (slice_index (stream_widths settings config ahead_rows)) (column_count settings ahead_rows))) l.count

-- the whole is no narrower than the side padding of a column
pub side-in-total : (settings : StreamSettings) (config : CompactConfig) (ahead_rows : List (List (List ℕ))) → 0 < column_count settings ahead_rows
    → config.padding.left.size + config.padding.right.size ≤ stream_total settings config ahead_rows
unfolding filled_width
side-in-total settings config ahead_rows h =
    let count = column_count settings ahead_rows in
    let s = sum_step (slice_index (stream_widths settings config ahead_rows)) 0 count h in
    let e = listed (stream_width settings config ahead_rows) count 0 h in
    omega arith
