-- What printing a table into a text leaves.
use Rattle.std.specs.Prelude.{◌≡◌, ℕ, List}
use Rattle.tabled_grid.specs.Picture.{table_text}
use Rattle.tabled_size.specs.Sheet.{Sheet}
use Rattle.tabled.specs.declared.arguments.Plan.{Plan}
use Rattle.tabled.specs.Headline.{IsBestOf}
use Rattle.tabled.specs.Planned.{IsPlannedOf, measured}
use Rattle.tabled.specs.Rendered.{PassesRange}
use Rattle.tabled_c.specs.declared.error_code.ErrorCode.{ErrorCode}
use Rattle.tabled_c.specs.declared.error_code.ErrorCode.TheVariants.{Memory, Range}

-- the text is that of the table that a plan makes of a whole one
pub record IsPrintedAs (plan : Plan) (whole : Sheet) (printed : List ℕ) : Type 0 where
  pub table : Sheet
  pub is_planned : IsPlannedOf plan whole table
  pub is_best : IsBestOf plan whole table
  pub is_text : printed ≡ table_text table

-- all of it was measured first
abbrev pub HasPrinted : Plan → Sheet → List ℕ → Type 0
HasPrinted plan = IsPrintedAs (measured plan)

-- a total of the whole table, or of the planned one, passes `usize::MAX`
abbrev pub HasPassedRange : Plan → Sheet → Type 0
HasPassedRange plan whole = PassesRange (IsPlannedOf (measured plan) whole) whole

-- an error of printing into a text: a failed allocation, or a total that passes `usize::MAX`
abbrev pub IsPrintCause : Plan → Sheet → ErrorCode → Type 0
IsPrintCause plan whole Memory = Unit {0}
IsPrintCause plan whole Range = HasPassedRange plan whole
IsPrintCause plan whole _ = ⊥
