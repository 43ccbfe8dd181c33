-- What printing a table under a layout leaves in a sink.
use Rattle.std.specs.Prelude.{◌≡◌, ◌⊎◌, ℕ, Bool, true, false, List, MatchOption, Result, Ok, Err}
use Rattle.tabled_base.specs.declared.error.TableError.{TableError}
use Rattle.tabled_base.specs.declared.error.TableError.TheVariants.{Memory, Range}
use Rattle.tabled_grid.specs.Printed.{IsOutOfRange, Prints}
use Rattle.tabled_line.specs.Sent.{Sent}
use Rattle.tabled_size.specs.Sheet.{Sheet, estimated}
use Rattle.tabview_print.specs.Fitted.{IsTooNarrow, ShowsWithin}
use Rattle.tabview_print.specs.Layouts.{settings_of}
use Rattle.tabview_print.specs.declared.layout.Layout.{Layout}

-- why a call fails before anything is sent: an allocation failed, or a total of the whole table
-- passes the greatest `usize`
abbrev pub StopsBeforePrinting : Sheet → TableError → Type 0
StopsBeforePrinting t e = (e ≡ Memory) ⊎ ((e ≡ Range) × IsOutOfRange t)

-- printing one of the tables that may be shown fails, with the errors of printing
pub record StopsPrinting (shows : Sheet → Type 0) (old : Sent) (error : TableError) (new : Sent) : Type 0 where
  pub shown : Sheet
  pub is_shown : shows shown
  pub estimates : Bool
  pub prints : Prints {T = Bool} estimates shown old (Err error) new

-- one of these tables was sent whole
pub record SendsShown (shows : Sheet → Type 0) (old new : Sent) : Type 0 where
  pub shown : Sheet
  pub is_shown : shows shown
  pub prints : Prints {T = Bool} true shown old (Ok true) new

-- what a call leaves that prints a table, `true`, or finds that it can't be shown, `false`
abbrev pub PrintsShown : (Sheet → Type 0) → Type 0 → Sheet → Sent → Result Bool TableError → Sent → Type 0
PrintsShown shows none t old (Ok true) new = SendsShown shows old new
PrintsShown shows none t old (Ok false) new = none × (new ≡ old)
PrintsShown shows none t old (Err e) new = (StopsBeforePrinting t e × (new ≡ old)) ⊎ StopsPrinting shows old e new

-- the whole table of some cells under a layout
abbrev pub whole_table : Layout → List (List (List ℕ)) → Sheet
whole_table layout cells = estimated cells (settings_of layout.style layout.columns.items)

-- the table that is shown of it, by the layout's width
abbrev pub Shows : Layout → Sheet → Sheet → Type 0
Shows layout t shown =
    MatchOption layout.width (shown ≡ t) (λ n. ShowsWithin layout.columns.items layout.has_header layout.narrowing n t shown)

-- there is a width, and the table can't be fitted to it
abbrev pub CannotShow : Layout → Sheet → Type 0
CannotShow layout t = MatchOption layout.width ⊥ (λ n. IsTooNarrow layout.columns.items layout.has_header n t)
