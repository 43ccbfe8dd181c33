-- Rows that are printed as a table, or one below the other.
use Rattle.std.specs.Prelude.{◌≡◌, ◌⊎◌, ℕ, Bool, true, false, List, Result, Ok, Err}
use Rattle.tabled_line.specs.Sent.{Sent}
use Rattle.tabled_size.specs.Sheet.{Sheet}
use Rattle.tabview_print.specs.PrintedTables.{CannotShow, PrintsShown, Shows, whole_table}
use Rattle.tabview_print.specs.declared.layout.Layout.{Layout}
use Rattle.tabview_print.specs.declared.layout.Narrowing.{Narrowing}
use Rattle.tabview_print.specs.declared.layout.Narrowing.TheVariants.{Cut, Wrap}
use Rattle.tabview_records.specs.Expanded.{PrintsExpanded}
use Rattle.tabview_records.specs.declared.error.PrintError.{PrintError}
use Rattle.tabview_records.specs.declared.error.PrintError.TheVariants.{Table, TooNarrow}
use Rattle.tabview_records.specs.declared.expanded.RecordOptions.{RecordOptions}

-- what printing a table leaves, if the table is there to print
abbrev pub PrintsTable : (Sheet → Type 0) → Sheet → Sent → Result Unit PrintError → Sent → Type 0
PrintsTable shows t old (Ok done) new = PrintsShown shows ⊥ t old (Ok true) new
PrintsTable shows t old (Err (Table e)) new = PrintsShown shows ⊥ t old (Err e) new
PrintsTable shows t old (Err (TooNarrow least)) new = ⊥

-- whether texts that are too wide are cut
abbrev pub cuts : Narrowing → Bool
cuts Wrap = false
cuts Cut = true

-- how a layout prints records
abbrev pub record_options : Layout → RecordOptions
record_options layout = record { has_header = layout.has_header; width = layout.width; cuts = cuts layout.narrowing }

-- rows are printed as a table, or that fails
pub record PrintsAsTable (expand : Bool) (layout : Layout) (cells : List (List (List ℕ))) (old : Sent) (result : Result Unit PrintError) (new : Sent) : Type 0 where
  pub asked : expand ≡ false
  pub prints : PrintsTable (Shows layout (whole_table layout cells)) (whole_table layout cells) old result new

-- rows are printed one below the other, or that fails: it was asked for, or no table fits
pub record PrintsBelow (expand : Bool) (layout : Layout) (cells : List (List (List ℕ))) (old : Sent) (result : Result Unit PrintError) (new : Sent) : Type 0 where
  pub why : (expand ≡ true) ⊎ CannotShow layout (whole_table layout cells)
  pub prints : PrintsExpanded (record_options layout) cells old result new

abbrev pub PrintsOrExpands : Bool → Layout → List (List (List ℕ)) → Sent → Result Unit PrintError → Sent → Type 0
PrintsOrExpands expand layout cells old result new = PrintsAsTable expand layout cells old result new ⊎ PrintsBelow expand layout cells old result new
