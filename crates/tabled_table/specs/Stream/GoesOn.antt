-- How the table of the first rows is continued.
use Rattle.std.specs.Prelude.{◌≡◌, ℕ, ◌++◌, List, length}
use Rattle.tabled_config.specs.declared.compact.CompactConfig.{CompactConfig}
use Rattle.tabled_size.specs.Sheet.{Sheet}
use Rattle.tabled_grid.specs.Picture.{table_text}
use Rattle.tabled_table.specs.declared.iter_table.settings.StreamSettings.{StreamSettings}
use Rattle.tabled_table.specs.Stream.Printed.{text_above}
use Rattle.tabled_table.specs.Stream.Streamed.{IsStreamed, column_count}

-- there is a table of `shown` and `rest`, and its text begins with the lines above `rest`
pub record GoesOn (settings : StreamSettings) (config : CompactConfig) (ahead_rows shown rest : List (List (List ℕ))) (t : Sheet) : Type 0 where
  pub sheet : Sheet
  pub streamed : IsStreamed settings config ahead_rows (shown ++ rest) sheet
  pub more : List ℕ
  pub text : text_above t (column_count settings ahead_rows) (length shown) ++ more ≡ table_text sheet
