-- Settings that consist of additive characters of one column, and lines of equal width.
use Rattle.std.specs.Prelude.{◌≡◌, ℕ, List, Option, unwrap_or}
use Rattle.std.specs.List.{All}
use Rattle.tabled_text.specs.Measure.{line_columns}
use Rattle.tabled_text.specs.Plain.{IsAdditiveColumn}
use Rattle.tabled_config.specs.declared.borders.HorizontalLine.{HorizontalLine}
use Rattle.tabled_config.specs.declared.borders.Frame.{Frame}
use Rattle.tabled_config.specs.declared.spanned.CellStyle.{CellStyle}

-- a missing character is a space
abbrev pub IsAdditivePiece : Option ℕ → Type 0
IsAdditivePiece c = IsAdditiveColumn (unwrap_or c 32)

pub record IsAdditiveRule (line : HorizontalLine) : Type 0 where
  pub main : IsAdditivePiece line.main
  pub left : IsAdditivePiece line.left
  pub intersection : IsAdditivePiece line.intersection
  pub right : IsAdditivePiece line.right

pub record IsAdditiveStyle (style : CellStyle) : Type 0 where
  pub left : IsAdditiveColumn style.padding.left.fill
  pub right : IsAdditiveColumn style.padding.right.fill
  pub top : IsAdditiveColumn style.padding.top.fill
  pub bottom : IsAdditiveColumn style.padding.bottom.fill

-- the vertical lines of rows, and the fills of the margin
pub record IsAdditiveFrame (frame : Frame) : Type 0 where
  pub vertical : IsAdditiveColumn frame.inner.main
  pub left : IsAdditiveColumn frame.left.main
  pub right : IsAdditiveColumn frame.right.main
  pub margin_left : IsAdditiveColumn frame.margin.left.fill
  pub margin_right : IsAdditiveColumn frame.margin.right.fill
  pub margin_top : IsAdditiveColumn frame.margin.top.fill
  pub margin_bottom : IsAdditiveColumn frame.margin.bottom.fill

-- each line is n columns wide
abbrev pub EachLineTakes : ℕ → List (List ℕ) → Type 0
EachLineTakes n lines = All (λ line. line_columns line ≡ n) lines
