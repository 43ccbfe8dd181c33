-- Marks: the prefix and suffix of a colour, around a run or a border character. They take no columns.
use Rattle.std.specs.Prelude.{ℕ, Bool, ◌&&◌, List, [], ◌++◌, Option, option_map, if◌then◌else◌, Some, None, ◌≡◌, unwrap_or}
use Rattle.std.specs.Str.{bytes_eq}
use Rattle.tabled_config.specs.declared.borders.Borders.{Borders}
use Rattle.tabled_config.specs.declared.sides.Sides.{Sides}
use Rattle.tabled_config.specs.declared.colored.ANSIStr.{ANSIStr}
use Rattle.tabled_config.specs.Compact.{each_side}
use Rattle.tabled_pool.specs.declared.pool_table.PoolTable.{PoolTable}

-- what is written before and after a run
pub record Mark : Type 0 where
  pub prefix : List ℕ
  pub suffix : List ℕ

abbrev pub mark_of : ANSIStr → Mark
mark_of color = record { prefix = color.prefix.now; suffix = color.suffix.now }

abbrev pub no_mark : Mark
no_mark = record { prefix = []; suffix = [] }

abbrev pub marks_of : Sides ANSIStr → Sides Mark
marks_of s = record { left = mark_of s.left; right = mark_of s.right; top = mark_of s.top; bottom = mark_of s.bottom }

-- a run between its marks, which are written even if it is empty
abbrev pub coloured : Mark → List ℕ → List ℕ
coloured mark run = mark.prefix ++ (run ++ mark.suffix)

abbrev pub is_same : Mark → Mark → Bool
is_same a b = bytes_eq a.prefix b.prefix && bytes_eq a.suffix b.suffix

-- the marks of the borders around a text, whatever characters these have
pub record LineMarks : Type 0 where
  pub top_left : Option Mark
  pub top : Option Mark
  pub top_right : Option Mark
  pub bottom_left : Option Mark
  pub bottom : Option Mark
  pub bottom_right : Option Mark
  pub left : Option Mark
  pub right : Option Mark

abbrev pub line_marks_of : Borders ANSIStr → LineMarks
line_marks_of b = record {
  top_left = option_map mark_of b.top_left;
  top = option_map mark_of b.top;
  top_right = option_map mark_of b.top_right;
  bottom_left = option_map mark_of b.bottom_left;
  bottom = option_map mark_of b.bottom;
  bottom_right = option_map mark_of b.bottom_right;
  left = option_map mark_of b.left;
  right = option_map mark_of b.right;
}

-- ---- the marks around a border character

-- the suffix of the colour before, the own prefix, and the suffix after the character
pub record Around : Type 0 where
  pub close : List ℕ
  pub start : List ℕ
  pub behind : List ℕ

abbrev pub nothing_around : Around
nothing_around = record { close = []; start = []; behind = [] }

-- a character between its marks
abbrev pub within_marks : Around → List ℕ → List ℕ
within_marks a c = a.close ++ (a.start ++ (c ++ a.behind))

-- the current colour after a part of a border: the first one that is set
abbrev pub used_after : Option Mark → Option Mark → Option Mark
used_after None mark = mark
used_after (Some used) mark = Some used

-- the start of a part: its prefix if no colour is current, the current suffix and its prefix if
-- another one is
abbrev pub begun : Option Mark → Option Mark → Around
begun used None = nothing_around
begun None (Some mark) = record { close = []; start = mark.prefix; behind = [] }
begun (Some used) (Some mark) =
    if is_same used mark then nothing_around else record { close = used.suffix; start = mark.prefix; behind = [] }

-- the end of a border
abbrev pub ended : Option Mark → List ℕ
ended None = []
ended (Some used) = used.suffix

-- a single character
abbrev pub alone : Option Mark → Around
alone None = nothing_around
alone (Some mark) = record { close = []; start = mark.prefix; behind = mark.suffix }

-- ---- settings without colours

-- a colour is empty if it isn't set, or if its prefix and suffix are empty
abbrev pub IsNoMark : Option Mark → Type 0
IsNoMark mark = unwrap_or mark no_mark ≡ no_mark

-- no border is coloured
pub record AreNoMarks (m : LineMarks) : Type 0 where
  pub top_left : IsNoMark m.top_left
  pub top : IsNoMark m.top
  pub top_right : IsNoMark m.top_right
  pub bottom_left : IsNoMark m.bottom_left
  pub bottom : IsNoMark m.bottom
  pub bottom_right : IsNoMark m.bottom_right
  pub left : IsNoMark m.left
  pub right : IsNoMark m.right

-- no border, padding or margin is coloured
pub record IsUncoloured (t : PoolTable) : Type 0 where
  pub borders : AreNoMarks (line_marks_of t.config.config.borders_color)
  pub padding : marks_of t.config.config.padding_color ≡ each_side no_mark
  pub margin : marks_of t.config.config.margin_color ≡ each_side no_mark
