-- The settings of a new table are plain characters of one column, so its lines are straight.
use Rattle.tabled_table.proofs.Names.{Bool, Holds, HorizontalLine, IsAdditiveColumn, IsApartConfig, IsApartStyle, IsAdditiveConfig}
use Rattle.tabled_table.proofs.Names.{IsAdditiveStyle, IsSeparatorColumn, List, None, Option, Sheet, Some, SpannedConfig, Table, ap, arith}
use Rattle.tabled_table.proofs.Names.{columns, cond, estimated_heights, estimated_widths, false, heights_of, inl, is_empty, length, refl}
use Rattle.tabled_table.proofs.Names.{rule_at, sheet, style_at, subst, sum_below, sum_step, sym, total_height, true, widths_of, ℕ, ◌+◌, ◌<◌}
use Rattle.tabled_table.proofs.Names.{◌==◌, ◌∙◌, ◌≡◌, ◌≤◌}
use Rattle.tabled_text.proofs.PlainLines.{plain_column-printable, plain_column-space}
use Rattle.tabled_size.specs.Effective.{effective_sizes}
use Rattle.tabled_size.specs.Totals.{filled_height, part_height}
use Rattle.tabled_line.specs.Additive.{IsAdditiveRule}
use Rattle.tabled_grid.proofs.EstimatedSizes.{holds_estimated}
use Rattle.tabled_table.specs.NewConfig.{new_config}
use Rattle.tabled_table.specs.NewTable.{IsNew}
use Rattle.tabled_table.specs.TableSheet.{new_sheet}

plus : IsAdditiveColumn 43
plus = plain_column-printable 43 refl

dash : IsAdditiveColumn 45
dash = plain_column-printable 45 refl

bar : IsAdditiveColumn 124
bar = plain_column-printable 124 refl

-- every horizontal line is of dashes, with plus signs at the vertical lines
ruled : HorizontalLine
ruled = record { main = Some 45; left = Some 43; intersection = Some 43; right = Some 43 }

rule_new : (rows i : ℕ) → rule_at new_config rows i ≡ Some ruled
unfolding rule_at new_config ruled
rule_new rows i = by_cases (i == 0) (i == rows)
  where
    by_cases : (a b : Bool) → cond a (Some ruled) (cond b (Some ruled) (Some ruled)) ≡ Some ruled
    by_cases true b = refl
    by_cases false true = refl
    by_cases false false = refl

plain_ruled : IsAdditiveRule ruled
unfolding ruled
plain_ruled = record { main = dash; left = plus; intersection = plus; right = plus }

rule_plain : (rows i : ℕ) (line : HorizontalLine) → rule_at new_config rows i ≡ Some line → IsAdditiveRule line
rule_plain rows i line h =
    let e : Some ruled ≡ Some line = sym (rule_new rows i) ∙ h in
    let same : ruled ≡ line = cc in
    subst IsAdditiveRule same plain_ruled

style_plain : (row column : ℕ) → IsAdditiveStyle (style_at new_config row column)
unfolding style_at new_config
style_plain row column = record { left = plain_column-space; right = plain_column-space; top = plain_column-space; bottom = plain_column-space }

pub new_plain : (rows count : ℕ) → IsAdditiveConfig new_config rows count
unfolding new_config
new_plain rows count = record {
  frame = record {
    vertical = bar;
    left = bar;
    right = bar;
    margin_left = plain_column-space;
    margin_right = plain_column-space;
    margin_top = plain_column-space;
    margin_bottom = plain_column-space;
  };
  rules = λ i b. rule_plain rows i;
  styles = λ row column h k. style_plain row column;
}

-- bars and spaces are separators
separator-bar : IsSeparatorColumn 124
separator-bar = record { additive = bar; steady = refl }

separator-space : IsSeparatorColumn 32
separator-space = record { additive = plain_column-space; steady = refl }

style_apart : (row column : ℕ) → IsApartStyle (style_at new_config row column)
unfolding style_at new_config
style_apart row column = record { left = separator-space; right = separator-space; top = separator-space; bottom = separator-space }

pub new_apart : (rows count : ℕ) → IsApartConfig new_config rows count
unfolding new_config
new_apart rows count = record {
  margin_top = plain_column-space;
  margin_bottom = plain_column-space;
  rules = λ i b. rule_plain rows i;
  cells = λ row h. record { styles = λ column k. style_apart row column; bars = inl (separator-bar, separator-bar); gaps = inl refl };
  frame = record {
    inner = bar;
    left = bar;
    right = bar;
    margin_left = separator-space;
    margin_right = separator-space;
  };
}

part_ge : (rows : ℕ) (heights : List ℕ) (row : ℕ) → 1 ≤ part_height new_config rows heights row
unfolding part_height
part_ge rows heights row = rw (rule_new rows row) (omega arith)

high_enough : (rows : ℕ) (heights : List ℕ) → 1 ≤ sum_below (part_height new_config rows heights) rows → 2 ≤ filled_height new_config rows heights
unfolding filled_height
high_enough rows heights h = rw (rule_new rows rows) (omega arith)

-- a table under the settings of a new one that isn't empty has at least its first and its last line
pub sheet_height : (t : Sheet) → t.config ≡ new_config → is_empty t.cells ≡ false → 0 < length t.cells → 2 ≤ total_height t
sheet_height t e filled h =
    let rows = length t.cells in
    let f = part_height new_config rows t.heights in
    let first : sum_below f 0 + f 0 ≤ sum_below f rows = sum_step f 0 rows h in
    let one : 1 ≤ f 0 = part_ge rows t.heights 0 in
    rw filled (subst (λ c. 2 ≤ filled_height c rows t.heights) (sym e) (high_enough rows t.heights (omega arith)))

abbrev built : List (List (List ℕ)) → SpannedConfig → Option (List ℕ) → Option (List ℕ) → Sheet
built cells config widths heights = record {
  cells = cells;
  config = config;
  widths = effective_sizes widths (estimated_widths cells config) (columns cells);
  heights = effective_sizes heights (estimated_heights cells config) (length cells);
}

-- a new table has no sizes stored
pub new_stands : (cells : List (List (List ℕ))) (table : Table) → IsNew cells table → sheet table ≡ new_sheet cells
new_stands cells table new =
    let widths = widths_of table.dimension in
    let heights = heights_of table.dimension in
    ap (λ c. built c table.config.config widths heights) new.records
    ∙ ap (λ c. built cells c widths heights) new.config
    ∙ ap (λ o. built cells new_config o heights) new.widths
    ∙ ap (λ o. built cells new_config None o) new.heights

pub new_is_plain : (cells : List (List (List ℕ))) (table : Table) → IsNew cells table
    → IsAdditiveConfig (sheet table).config (length cells) (columns cells)
new_is_plain cells table new = subst (λ c. IsAdditiveConfig c (length cells) (columns cells)) (sym new.config) (new_plain (length cells) (columns cells))

pub new_is_apart : (cells : List (List (List ℕ))) (table : Table) → IsNew cells table
    → IsApartConfig (sheet table).config (length cells) (columns cells)
new_is_apart cells table new = subst (λ c. IsApartConfig c (length cells) (columns cells)) (sym new.config) (new_apart (length cells) (columns cells))

pub new_holds : (cells : List (List (List ℕ))) (table : Table) → IsNew cells table → Holds (sheet table)
new_holds cells table new = subst Holds (sym (new_stands cells table new)) (holds_estimated cells new_config)
