-- What the widths of a table add to after they were shrunk for a total, and how they follow the texts.
use Rattle.tabled_size.proofs.Names.{List, SpannedConfig, ap, arith, cases_lt, column_width, columns, estimated_widths, length, max}
use Rattle.tabled_size.proofs.Names.{needed_width, one_if, suc, sum_below, zero, ℕ, ⊎_elim, ◌+◌, ◌<◌, ◌∙◌, ◌≡◌, ◌≤◌}
use Rattle.std.proofs.Common.{◌-◌, ◌*◌, sum}
use Rattle.std.proofs.lemmas.List.{get_or_past}
use Rattle.tabled_base.specs.Cells.{cell_at}
use Rattle.tabled_config.specs.Frame.{has_inner, has_left, has_right}
use Rattle.tabled_text.specs.Measure.{text_columns}
use Rattle.tabled_priority.specs.Permitted.{at, spare, spare_total, IsPermitted, IsTakenFrom}
use Rattle.tabled_priority.specs.Laws.Sums.{sum-below, sum_below-plus, sum_below-same}
use Rattle.tabled_size.proofs.Greatest.{greatest_below, greatest_step}
use Rattle.tabled_size.proofs.Passing.{width_at}
use Rattle.tabled_size.proofs.Totalling.{widths_length}

-- where no minimum is above its value, what can be taken is what the values are above the minimums
pub spare_total-sum : (values mins : List ℕ) → length mins ≡ length values → ((i : ℕ) → at mins i ≤ at values i)
    → spare_total values mins + sum mins ≡ sum values
spare_total-sum values mins long below =
    let n = length values in
    let a : sum values ≡ sum_below (at values) n = sum-below values in
    let b : sum mins ≡ sum_below (at mins) n = sum-below mins ∙ ap (sum_below (at mins)) long in
    let c = sum_below-plus (spare values mins) (at mins) n in
    let d = sum_below-same (λ i. spare values mins i + at mins i) (at values) n (λ i _. let e = below i in omega arith) in
    omega arith

-- the total is the wanted one, or that of the minimums where this is greater
pub narrowed_total : (old mins : List ℕ) (frame n : ℕ) (new : List ℕ) → length mins ≡ length old
    → ((i : ℕ) → at mins i ≤ at old i) → n < sum old + frame → IsTakenFrom old mins (sum old + frame - n) new
    → sum new + frame ≡ max n (sum mins + frame)
narrowed_total old mins frame n new long below more t =
    let s = spare_total-sum old mins long below in
    let e = t.total in
    omega arith

-- no column is below its minimum
pub above_minimum : (old mins new : List ℕ) → ((i : ℕ) → at mins i ≤ at old i) → IsPermitted old mins new → (i : ℕ) → at mins i ≤ at new i
above_minimum old mins new below p i = let a = p.least i in let b = below i in omega arith

-- what a table takes beside the widths of its columns: the vertical lines, and the margin on the left and right
abbrev pub frame_width : SpannedConfig → ℕ → ℕ
frame_width config count =
    (config.margin.left.size + one_if (has_left config.borders))
    + ((count - 1) * one_if (has_inner config.borders) + (one_if (has_right config.borders) + config.margin.right.size))

greatest_below-le : (f g : ℕ → ℕ) (n : ℕ) → ((i : ℕ) → f i ≤ g i) → greatest_below f n ≤ greatest_below g n
greatest_below-le f g zero h = omega arith
greatest_below-le f g (suc n) h =
    let a = greatest_step f n in
    let b = greatest_step g n in
    let c = h n in
    let r : greatest_below f n ≤ greatest_below g n = greatest_below-le f g n h in
    omega arith

-- texts that are nowhere wider ask for no wider column
column_width-le : (old new : List (List (List ℕ))) (config : SpannedConfig) (column : ℕ) → length new ≡ length old
    → ((row : ℕ) → text_columns (cell_at new row column) ≤ text_columns (cell_at old row column))
    → column_width new config column ≤ column_width old config column
unfolding column_width
column_width-le old new config column rows h =
    let f = λ (row : ℕ). needed_width new config row column in
    let g = λ (row : ℕ). needed_width old config row column in
    let e : greatest_below f (length new) ≡ greatest_below f (length old) = ap (greatest_below f) rows in
    let r : greatest_below f (length old) ≤ greatest_below g (length old) = greatest_below-le f g (length old)
    (λ row. let a = h row in omega arith) in
    omega arith

pub estimated_widths-le : (old new : List (List (List ℕ))) (config : SpannedConfig) → length new ≡ length old
    → columns new ≡ columns old → ((row column : ℕ)
    → text_columns (cell_at new row column) ≤ text_columns (cell_at old row column)) → (i : ℕ)
    → at (estimated_widths new config) i ≤ at (estimated_widths old config) i
estimated_widths-le old new config rows count h i = ⊎_elim
    (λ inside.
    let a = width_at new config i (omega arith) in
    let b = width_at old config i inside in
    let c = column_width-le old new config i rows (λ row. h row i) in
    omega arith)
    (λ past. let a = get_or_past (estimated_widths new config) i 0 (omega (arith, widths_length new config)) in omega arith)
    (cases_lt i (columns old))
