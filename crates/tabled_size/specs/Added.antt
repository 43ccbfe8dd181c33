-- What padding adds to the width and height of each cell.
use Rattle.std.specs.Prelude.{◌≡◌, ℕ, ◌+◌, ◌<◌, ◌≤◌, ◌^◌, ◌⊎◌, Some, None, map, true}
use Rattle.std.specs.List.{range_with_len}
use Rattle.tabled_config.specs.declared.sides.Indent.{Indent}
use Rattle.tabled_config.specs.declared.sides.Sides.{Sides}
use Rattle.tabled_config.specs.declared.spanned.SpannedConfig.{SpannedConfig}
use Rattle.tabled_config.specs.Settings.{style_at}
use Rattle.tabled_size.specs.declared.added_padding.Extent.{Extent}
use Rattle.tabled_size.specs.declared.added_padding.KnownAdded.{KnownAdded}
use Rattle.tabled_size.specs.declared.added_padding.ListedRow.{ListedRow}
use Rattle.tabled_size.specs.declared.added_padding.KnownAdded.TheVariants as known

-- what a padding adds
abbrev pub added_by : Sides Indent → Extent
added_by padding =
    record {
      columns = padding.left.size + padding.right.size;
      lines = padding.top.size + padding.bottom.size;
    }

-- what padding adds to a cell
abbrev pub added_at : SpannedConfig → ℕ → ℕ → Extent
added_at config row column = added_by (style_at config row column).padding

-- the columns or the lines exceed `usize::MAX`
abbrev pub PassesRange : Extent → Type 0
PassesRange extent = (2 ^ 64 ≤ extent.columns) ⊎ (2 ^ 64 ≤ extent.lines)

-- no columns and no lines
abbrev pub nothing : Extent
nothing = record { columns = 0; lines = 0 }

-- `known` gives what padding adds in the first columns of a row
pub record DescribesAdded (known : ℕ → Extent) (config : SpannedConfig) (row columns : ℕ) : Type 0 where
  pub at : (column : ℕ) → column < columns → known column ≡ added_at config row column

-- the list has what padding adds in the reference row; `everywhere` only if all rows have the same
-- paddings
pub record IsListed (config : SpannedConfig) (columns : ℕ) (listed : ListedRow) : Type 0 where
  pub extents : listed.extents.items ≡ map (added_at config listed.reference) (range_with_len 0 columns)
  pub everywhere : listed.everywhere ≡ true → (row column : ℕ)
      → (style_at config row column).padding ≡ (style_at config listed.reference column).padding

-- what is known of the first columns
abbrev pub known_of : KnownAdded → SpannedConfig → ℕ → Type 0
known_of (known.Alike extent) config columns = (row column : ℕ) → extent ≡ added_at config row column
known_of (known.Unlike (Some listed)) config columns = IsListed config columns listed
known_of (known.Unlike None) config columns = Unit

-- what is known of the first columns is what padding adds there
pub record KnowsAdded (known : KnownAdded) (config : SpannedConfig) (columns : ℕ) : Type 0 where
  pub is : known_of known config columns
