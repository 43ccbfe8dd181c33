-- The totals of tables whose rows grew or shrank, or for which too few widths may be stored.
use Rattle.tabled_set.proofs.Names.{CompleteDimension, IsTakenFrom, List, MatchOption, None, Option, Sheet, Some, SpannedConfig, [], ap}
use Rattle.tabled_set.proofs.Names.{arith, at, cell_at, columns, cond, effective, effective_sizes, estimated_heights, estimated_widths}
use Rattle.tabled_set.proofs.Names.{false, filled_height, filled_width, frame_height, frame_width, heights_length, if◌then◌else◌, is_empty}
use Rattle.tabled_set.proofs.Names.{length, length-take, max, nat_tests, part_height, reached, refl, subst, suc, sum, sym, total_width}
use Rattle.tabled_set.proofs.Names.{widths_length, widths_of, zero, ℕ, ⊎_elim, ◌+◌, ◌-◌, ◌<◌, ◌==◌, ◌^◌, ◌∙◌, ◌≡◌, ◌≤◌}
use Rattle.tabled_priority.specs.Grown.{IsGrownFrom, added}
use Rattle.tabled_priority.specs.Laws.Sums.{sum_below-plus, sum_below-same, sum_below-term, sum_below-zero, sum-below}
use Rattle.tabled_priority.specs.Permitted.{spare, spare_total}
use Rattle.tabled_size.specs.Totals.{rules_at}
use Rattle.tabled_size.proofs.Passing.{height_at, height_ge}
use Rattle.tabled_text.proofs.Bridge.{some_line}
use Rattle.std.proofs.lemmas.Bool.{cases_lt}
use Rattle.std.proofs.lemmas.List.{get_or_past}
use Rattle.std.specs.List.{slice_index}
use Rattle.tabled_size.proofs.Reaching.{reached_size, reached_so}
use Rattle.tabled_config.specs.Frame.{has_inner, has_left, has_right}
use Rattle.tabled_priority.specs.Sums.{one_if, sum_below}
use Rattle.std.proofs.Common.{◌*◌}

-- where there is a height a row, the whole is their sum and the frame
parts : (config : SpannedConfig) (rows : ℕ) (heights : List ℕ)
    → sum_below (part_height config rows heights) rows ≡ sum_below (rules_at config rows) rows + sum_below (at heights) rows
unfolding part_height
parts config rows heights = sum_below-plus (rules_at config rows) (at heights) rows

pub filled_height-frame : (config : SpannedConfig) (rows : ℕ) (heights : List ℕ) → length heights ≡ rows
    → filled_height config rows heights ≡ sum heights + frame_height config rows
unfolding filled_height
filled_height-frame config rows heights long =
    let whole = parts config rows heights in
    let bare = parts config rows [] in
    let none = sum_below-zero (at []) rows (λ i lt. refl) in
    let all : sum heights ≡ sum_below (at heights) rows = sum-below heights ∙ ap (sum_below (at heights)) long in
    omega arith

-- every row of a table with a column has a line at least
pub some-lines : (cells : List (List (List ℕ))) (config : SpannedConfig) → is_empty cells ≡ false → 0 < sum (estimated_heights cells config)
some-lines cells config some =
    let heights = estimated_heights cells config in
    let row : 0 < length cells = grind (arith, nat_tests, some) in
    let column : 0 < columns cells = grind (arith, nat_tests, some) in
    let long = heights_length cells config in
    let first = height_at cells config 0 row in
    let above = height_ge cells config 0 0 column in
    let lines = some_line (cell_at cells 0 0) in
    let term = sum_below-term (at heights) (length heights) 0 (omega arith) in
    let all = sum-below heights in
    omega arith

-- ---- grown

pub grown-sum : (old new : List ℕ) (by : ℕ) → 0 < sum old → IsGrownFrom old by new → sum new ≡ sum old + by
grown-sum old new by some h =
    let all : added old by ≡ by = let no : (sum old == 0) ≡ false = grind (arith, nat_tests, some) in ap (λ b. if b then 0 else by) no in
    h.total ∙ ap (λ k. sum old + k) all

-- ---- shrunk, with no minimums

spare-all : (values : List ℕ) → spare_total values [] ≡ sum values
spare-all values = sum_below-same (spare values []) (at values) (length values) (λ i lt. omega arith) ∙ sym (sum-below values)

pub shrunk-total : (old new : List ℕ) (frame n : ℕ) → n < sum old + frame → IsTakenFrom old [] (sum old + frame - n) new
    → sum new + frame ≡ max n frame
shrunk-total old new frame n more t =
    let s = spare-all old in
    let e = t.total in
    omega arith

-- no list that stands is longer than the table
pub short-sizes : (stored : Option (List ℕ)) (estimates : List ℕ) (count : ℕ) → length estimates ≡ count
    → length (effective_sizes stored estimates count) ≤ count
short-sizes None estimates count long = omega (arith, long)
short-sizes (Some sizes) estimates count long = omega (arith, length-take count sizes)

pub short-widths : (cells : List (List (List ℕ))) (config : SpannedConfig) (sizes : CompleteDimension)
    → length (effective cells config sizes).widths ≤ columns cells
short-widths cells config sizes = short-sizes (widths_of sizes) (estimated_widths cells config) (columns cells) (widths_length cells config)

-- what is read past the end of a list adds nothing
past-end : (sizes : List ℕ) (count : ℕ) → length sizes ≤ count → sum_below (at sizes) count ≡ sum_below (at sizes) (length sizes)
past-end sizes zero h = let e : length sizes ≡ 0 = omega arith in ap (sum_below (at sizes)) (sym e)
past-end sizes (suc count) h = ⊎_elim
    (λ (below : length sizes < suc count).
    let r = past-end sizes count (omega arith) in
    let none = get_or_past sizes count 0 (omega arith) in
    omega arith)
    (λ past. let e : suc count ≡ length sizes = omega arith in ap (sum_below (at sizes)) e)
    (cases_lt (length sizes) (suc count))

pub filled_width-short : (config : SpannedConfig) (count : ℕ) (widths : List ℕ) → length widths ≤ count
    → filled_width config count widths ≡ sum widths + frame_width config count
unfolding filled_width
filled_width-short config count widths short =
    let a : sum widths ≡ sum_below (at widths) count = sum-below widths ∙ sym (past-end widths count short) in
    omega arith

-- the total of a table with no more widths than columns
pub full_total : (t : Sheet) → is_empty t.cells ≡ false → length t.widths ≤ columns t.cells
    → total_width t ≡ sum t.widths + frame_width t.config (columns t.cells)
full_total t full short =
    ap (λ b. cond b 0 (filled_width t.config (columns t.cells) t.widths)) full
    ∙ filled_width-short t.config (columns t.cells) t.widths short

-- ---- sizes that are read as 0 past the end of their list

-- the size at each place, 0 past the end
abbrev pub padded : List ℕ → ℕ → Option ℕ
padded sizes i = Some (slice_index sizes i)

-- all places are reached
pub padded_long : (sizes : List ℕ) (count : ℕ) → count ≤ length (reached (padded sizes) count)
padded_long sizes count = reached_so (padded sizes) count count (omega arith) (λ i lt. refl)

-- a total depends on the sizes below the count alone
pub same_width : (config : SpannedConfig) (count : ℕ) (old new : List ℕ) → ((i : ℕ) → i < count → at new i ≡ at old i) → filled_width config count new ≡ filled_width config count old
unfolding filled_width
same_width config count old new h =
    ap (λ n. (config.margin.left.size + one_if (has_left config.borders)) + ((n + (count - 1) * one_if (has_inner config.borders)) + (one_if (has_right config.borders) + config.margin.right.size)))
    (sum_below-same (at new) (at old) count h)

pub same_height : (config : SpannedConfig) (count : ℕ) (old new : List ℕ) → ((i : ℕ) → i < count → at new i ≡ at old i) → filled_height config count new ≡ filled_height config count old
unfolding filled_height part_height
same_height config count old new h =
    ap (λ n. config.margin.top.size + (n + (rules_at config count count + config.margin.bottom.size)))
    (sum_below-same (part_height config count new) (part_height config count old) count
    (λ i lt. ap (λ n. rules_at config count i + n) (h i lt)))

same_reached : (sizes : List ℕ) (count i : ℕ) → i < count → at (reached (padded sizes) count) i ≡ at sizes i
same_reached sizes count i lt =
    let long = padded_long sizes count in
    sym (reached_size (padded sizes) count i (at sizes i) (omega arith) refl)

pub padded_width_total : (config : SpannedConfig) (count : ℕ) (sizes : List ℕ) → filled_width config count (reached (padded sizes) count) ≡ filled_width config count sizes
padded_width_total config count sizes = same_width config count sizes (reached (padded sizes) count) (same_reached sizes count)

pub padded_height_total : (config : SpannedConfig) (count : ℕ) (sizes : List ℕ) → filled_height config count (reached (padded sizes) count) ≡ filled_height config count sizes
padded_height_total config count sizes = same_height config count sizes (reached (padded sizes) count) (same_reached sizes count)

-- a total that isn't there passes the range
pub passes : (total same : ℕ) (o : Option ℕ) → MatchOption o (2 ^ 64 ≤ total) (λ n. n ≡ total) → o ≡ None → total ≡ same → 2 ^ 64 ≤ same
passes total same o h none e =
    subst (λ k. 2 ^ 64 ≤ k) e (subst (λ (p : Option ℕ). MatchOption p (2 ^ 64 ≤ total) (λ n. n ≡ total)) none h)
