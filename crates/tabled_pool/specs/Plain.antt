-- Pool tables whose lines are equally wide: their characters, texts and settings. A missing border
-- character is a space.
use Rattle.std.specs.Prelude.{ℕ, unwrap_or, ◌≡◌, ◌<◌, ◌⊎◌, true}
use Rattle.tabled_text.specs.FramedLines.{IsSeparatorColumn}
use Rattle.tabled_text.specs.Plain.{IsAdditiveColumn, IsAdditive, IsPlain}
use Rattle.tabled_config.specs.declared.borders.Borders.{Borders}
use Rattle.tabled_config.specs.declared.sides.Indent.{Indent}
use Rattle.tabled_config.specs.declared.sides.Sides.{Sides}
use Rattle.tabled_pool.specs.declared.plain.CharacterKind.{CharacterKind}
use Rattle.tabled_pool.specs.declared.plain.CharacterKind.TheVariants.{Additive, Separator}
use Rattle.tabled_pool.specs.Tree.{tree_of, EachText}
use Rattle.tabled_pool.specs.declared.pool_table.PoolTable.{PoolTable}
use Rattle.tabled_pool.specs.Pool.{borders_of, margin_of, style_of}
use Rattle.tabled_pool.specs.Colours.{IsUncoloured}
use Rattle.tabled_config.specs.Frame.{has_left}
use Rattle.tabled_config.specs.declared.spanned.CellStyle.{CellStyle}

abbrev pub IsOfKind : CharacterKind → ℕ → Type 0
IsOfKind Additive = IsAdditiveColumn
IsOfKind Separator = IsSeparatorColumn

-- `IsKind` holds for each border character
pub record EachCharacter (IsKind : ℕ → Type 0) (b : Borders ℕ) : Type 0 where
  pub top : IsKind (unwrap_or b.top 32)
  pub bottom : IsKind (unwrap_or b.bottom 32)
  pub left : IsKind (unwrap_or b.left 32)
  pub right : IsKind (unwrap_or b.right 32)
  pub top_left : IsKind (unwrap_or b.top_left 32)
  pub top_right : IsKind (unwrap_or b.top_right 32)
  pub bottom_left : IsKind (unwrap_or b.bottom_left 32)
  pub bottom_right : IsKind (unwrap_or b.bottom_right 32)
  pub top_intersection : IsKind (unwrap_or b.top_intersection 32)
  pub bottom_intersection : IsKind (unwrap_or b.bottom_intersection 32)
  pub left_intersection : IsKind (unwrap_or b.left_intersection 32)
  pub right_intersection : IsKind (unwrap_or b.right_intersection 32)
  pub intersection : IsKind (unwrap_or b.intersection 32)

-- `IsKind` holds for the fill of each side
pub record EachFill (IsKind : ℕ → Type 0) (sides : Sides Indent) : Type 0 where
  pub left : IsKind sides.left.fill
  pub right : IsKind sides.right.fill
  pub top : IsKind sides.top.fill
  pub bottom : IsKind sides.bottom.fill

-- ---- plain and additive tables

-- `IsKind` holds for each character of borders, padding and margin, and nothing is coloured
pub record HasSettings (IsKind : ℕ → Type 0) (t : PoolTable) : Type 0 where
  pub borders : EachCharacter IsKind (borders_of t)
  pub padding : EachFill IsKind t.config.config.padding
  pub margin : EachFill IsKind (margin_of t)
  pub uncoloured : IsUncoloured t

-- each text is additive, as plain ones are, and so are the settings
pub record IsAdditivePool (t : PoolTable) : Type 0 where
  pub texts : EachText IsAdditive (tree_of t.value)
  pub settings : HasSettings IsAdditiveColumn t

-- each text is plain, and the settings are plain or separators
pub record IsPlainPool (t : PoolTable) : Type 0 where
  pub texts : EachText IsPlain (tree_of t.value)
  pub settings : HasSettings IsAdditiveColumn t

-- ---- tables whose settings separate the texts, whatever these contain

-- texts side by side have a vertical border or side padding between them
abbrev pub HasSeparator : Borders ℕ → CellStyle → Type 0
HasSeparator b style = (has_left b ≡ true) ⊎ ((0 < style.padding.left.size) ⊎ (0 < style.padding.right.size))

-- borders, padding and margin are separators of one column, a border or padding is between texts
-- side by side, and nothing is coloured
pub record IsApartPool (t : PoolTable) : Type 0 where
  pub settings : HasSettings IsSeparatorColumn t
  pub gap : HasSeparator (borders_of t) (style_of t.config)

-- the columns of what is drawn add up: the settings separate any texts, or texts and settings are
-- additive
abbrev pub IsStraightPool : PoolTable → Type 0
IsStraightPool t = IsApartPool t ⊎ IsAdditivePool t
