-- Of private steps: no public call promises this.
-- Texts of several lines, each with a cursor in a line of the drawing.
use Rattle.std.specs.Prelude.{◌≡◌, ℕ, ◌+◌, Some, IfSome, List, slice_get}
use Rattle.std.specs.List.{All}
use Rattle.std.specs.Option.{option_map}
use Rattle.tabled_base.specs.Content.{content_text}
use Rattle.tabled_config.specs.declared.spanned.CellStyle.{CellStyle}
use Rattle.tabled_line.specs.Block.{fill_above}
use Rattle.tabled_line.specs.Cursors.{IsAt}
use Rattle.tabled_line.specs.declared.cursor.Cursor.{Cursor}
use Rattle.tabled_text.specs.Measure.{line_columns, lines_of}
use Rattle.tabled_pool.specs.Boxes.{Part}
use Rattle.tabled_pool.specs.Plan.{DrawingPlan}
use Rattle.tabled_pool.specs.declared.rectangle.Rectangle.{Rectangle}
use Rattle.tabled_pool.specs.declared.tall_texts.BoxText.{BoxText}
use Rattle.tabled_pool.specs.declared.tall_texts.TallText.{TallText}
use Rattle.tabled_pool.specs.declared.tall_texts.TallTexts.{TallTexts}

-- a cursor has a line of a text with its columns, or none behind the last
pub record HasLine (text : List ℕ) (row : ℕ) (cursor : Cursor) : Type 0 where
  pub line_is : option_map (λ line. line.0.now) cursor.line ≡ slice_get (lines_of text) row
  pub columns_are : IfSome cursor.line (λ line. line.1 ≡ line_columns line.0.now)

-- the cursor of a text is in line `index` of its rectangle
abbrev pub IsInPlace : CellStyle → Rectangle → List ℕ → ℕ → Cursor → Type 0
IsInPlace style r text index cursor = IsAt text (fill_above style r.height text) index cursor

-- the same, if it has a cursor
abbrev pub IsInLine : CellStyle → Rectangle → ℕ → BoxText → Type 0
IsInLine style r index b = IfSome b.cursor (λ cursor. IsInPlace style r (content_text b.content) index cursor.now)

-- the text of a part, with its cursor in line y of the drawing
pub record IsIn (style : CellStyle) (p : Part) (y : ℕ) (tall : TallText) : Type 0 where
  pub text : content_text tall.content ≡ p.text
  pub cursor : IsAt p.text (p.place.y + fill_above style p.place.height p.text) y tall.cursor

-- the text of the part that its number is of
abbrev pub IsTall : DrawingPlan → ℕ → TallText → Type 0
IsTall t y tall = (p : Part) → slice_get t.parts tall.number ≡ Some p → IsIn t.style p y tall

abbrev pub AreTall : DrawingPlan → ℕ → TallTexts → Type 0
AreTall t y texts = All (IsTall t y) texts.texts.items
