-- Tables of which some cells change and the others don't.
use Rattle.std.specs.Prelude.{◌≡◌, ◌⊎◌, ℕ, Bool, true, not, ◌&&◌, ◌||◌, ◌==◌, ◌<◌, ◌∷◌, ◌++◌, nat_lt, List, [], MatchBool, Option}
use Rattle.std.specs.Prelude.{Some, None, length, slice_index_or, nat_le}
use Rattle.tabled_set.specs.Common.{cell_at, covers, Entity, IsInside, lines_of, Memory, Range, TableError, text_columns, columns}
use Rattle.tabled_text.specs.WordWrap.{IsWordWrapped}
use Rattle.tabled_text.specs.Wrapping.{IsWrapped}
use Rattle.tabled_set.specs.Truncated.{IsTruncated, SuffixLimit}
pub use Rattle.tabled_set.specs.declared.walk.WalkOrder.{WalkOrder}
pub use Rattle.tabled_set.specs.declared.walk.WalkOrder.TheVariants.{ByColumn, ByRow}
pub use Rattle.tabled_set.specs.declared.resize.CellFilter.{CellFilter}
pub use Rattle.tabled_set.specs.declared.resize.CellFilter.TheVariants.{Every, Higher, Lower, Narrower, NotAsWide, Wider}
use Rattle.std.specs.declared.ops.Range.{Range as Band}
use Rattle.tabled_records.specs.Joined.{Written}

-- ---- one text

-- a text is wrapped to a content size, words kept whole or not
abbrev pub wrapping : Bool → ℕ → List ℕ → List ℕ → Type 0
wrapping words content_size before after = IsWrapped content_size words before after

-- a text is wrapped to a content size between words, and the spaces at which it is broken are dropped
abbrev pub word_wrapping : ℕ → List ℕ → List ℕ → Type 0
word_wrapping content_size before after = IsWordWrapped content_size before after

-- a text is truncated to a content size
abbrev pub truncating : List ℕ → SuffixLimit → Bool → ℕ → List ℕ → List ℕ → Type 0
truncating suffix limit multiline content_size before after = IsTruncated content_size suffix limit multiline before after

-- whether a text passes a filter for a content size, by its columns and its lines
abbrev pub takes_size : CellFilter → ℕ → ℕ → ℕ → Bool
takes_size Every content_size columns lines = true
takes_size Wider content_size columns lines = nat_lt content_size columns
takes_size Narrower content_size columns lines = nat_lt columns content_size
takes_size NotAsWide content_size columns lines = not (columns == content_size)
takes_size Higher content_size columns lines = nat_lt content_size lines
takes_size Lower content_size columns lines = nat_lt lines content_size

abbrev pub is_taken : CellFilter → ℕ → List ℕ → Bool
is_taken cell_filter content_size text = takes_size cell_filter content_size (text_columns text) (length (lines_of text))

-- a text that passes the filter changes, another doesn't
abbrev pub if_taken : CellFilter → (ℕ → List ℕ → List ℕ → Type 0) → ℕ → List ℕ → List ℕ → Type 0
if_taken cell_filter change content_size before after = MatchBool (is_taken cell_filter content_size before) (change content_size before after) (after ≡ before)

-- how texts are changed for content sizes: those that pass the filter, by a relation of the content
-- size, the old and the new text, and some of them in place, without an allocation
pub record TextChange : Type 1 where
  pub cell_filter : CellFilter
  pub in_place : ℕ → List ℕ → Type 0
  pub change : ℕ → List ℕ → List ℕ → Type 0

-- a text wider than its content size changes, another doesn't
abbrev pub if_wider : (ℕ → List ℕ → List ℕ → Type 0) → ℕ → List ℕ → List ℕ → Type 0
if_wider change content_size before after = MatchBool (nat_lt content_size (text_columns before)) (change content_size before after) (after ≡ before)

-- a text is changed for its content size; one without a content size isn't
abbrev pub if_sized : (ℕ → List ℕ → List ℕ → Type 0) → Option ℕ → List ℕ → List ℕ → Type 0
if_sized change None before after = after ≡ before
if_sized change (Some content_size) before after = change content_size before after

-- changing a text needs an allocation: it passes the filter, and can't be changed in place
pub record NeedsMemory (cell_filter : CellFilter) (in_place : ℕ → List ℕ → Type 0) (content_size : ℕ) (text : List ℕ) : Type 0 where
  pub taken : is_taken cell_filter content_size text ≡ true
  pub apart : in_place content_size text → ⊥

-- a text has a content size, and changing it needs an allocation
abbrev pub NeedsMemoryIn : CellFilter → (ℕ → List ℕ → Type 0) → Option ℕ → List ℕ → Type 0
NeedsMemoryIn cell_filter in_place None text = ⊥
NeedsMemoryIn cell_filter in_place (Some content_size) text = NeedsMemory cell_filter in_place content_size text

-- no text is changed in place
abbrev pub never_in_place : ℕ → List ℕ → Type 0
never_in_place = λ content_size text. ⊥

-- ---- cells

-- the chosen cells change, each by the relation for its row and column, and the others don't
pub record AreChanged (chosen : ℕ → ℕ → Bool) (change : ℕ → ℕ → List ℕ → List ℕ → Type 0) (old new : List (List (List ℕ))) : Type 0 where
  pub rows : length new ≡ length old
  pub row_lengths : (row : ℕ) → length (slice_index_or new row []) ≡ length (slice_index_or old row [])
  pub cells : (row column : ℕ) → IsInside old row column
      → MatchBool (chosen row column) (change row column (cell_at old row column) (cell_at new row column)) (cell_at new row column ≡ cell_at old row column)

-- the line in which a cell is visited, which is a row or a column, and its place in it
abbrev pub line_of : WalkOrder → ℕ → ℕ → ℕ
line_of ByRow row column = row
line_of ByColumn row column = column

abbrev pub place_of : WalkOrder → ℕ → ℕ → ℕ
place_of ByRow row column = column
place_of ByColumn row column = row

-- a cell is visited before a place of a line
abbrev pub precedes : WalkOrder → ℕ → ℕ → ℕ → ℕ → Bool
precedes order line place row column = nat_lt (line_of order row column) line || (line_of order row column == line && nat_lt (place_of order row column) place)

-- a change stopped at a chosen cell whose text needs an allocation. The chosen cells before it have
-- changed; it and all others haven't
pub record AreChangedBefore (order : WalkOrder) (chosen : ℕ → ℕ → Bool) (needs : ℕ → ℕ → List ℕ → Type 0) (change : ℕ → ℕ → List ℕ → List ℕ → Type 0)
    (old new : List (List (List ℕ))) : Type 0 where
  pub row : ℕ
  pub column : ℕ
  pub inside : IsInside old row column
  pub stopped : chosen row column ≡ true
  pub wanting : needs row column (cell_at old row column)
  pub changed : AreChanged (λ r c. chosen r c && precedes order (line_of order row column) (place_of order row column) r c) change old new

-- ---- the cells of an entity, all with one content size

-- the entity's cells change, and no others
abbrev pub ChangesEntity : (ℕ → List ℕ → List ℕ → Type 0) → ℕ → Entity → List (List (List ℕ)) → List (List (List ℕ)) → Type 0
ChangesEntity change content_size entity old new = AreChanged (covers entity) (λ row column. change content_size) old new

-- a change of the entity's cells, row by row, stopped at one that needs an allocation. Those before
-- it have changed; it and all others haven't
abbrev pub IsEntityChangedBefore : TextChange → ℕ → Entity → List (List (List ℕ)) → List (List (List ℕ)) → Type 0
IsEntityChangedBefore by content_size entity old new =
    AreChangedBefore ByRow (covers entity) (λ row column. NeedsMemory by.cell_filter by.in_place content_size)
    (λ row column. if_taken by.cell_filter by.change content_size) old new

-- what an error leaves: with `Range` no cell has changed, with `Memory` the entity's cells before
-- the one at which it stopped have
abbrev pub StopsEntity : TextChange → ℕ → Entity → TableError → List (List (List ℕ)) → List (List (List ℕ)) → Type 0
StopsEntity by content_size entity error old new =
    ((error ≡ Range) × (new ≡ old)) ⊎ ((error ≡ Memory) × IsEntityChangedBefore by content_size entity old new)

-- ---- a walk, line by line: lines are rows or columns, and a band is a range of them

-- a row or column is in a band
abbrev pub is_within : Band ℕ → ℕ → Bool
is_within band place = nat_le band.start place && nat_lt place band.end

-- the number of lines, and of places in each
abbrev pub lines_in : WalkOrder → List (List (List ℕ)) → ℕ
lines_in ByRow cells = length cells
lines_in ByColumn cells = columns cells

abbrev pub places_in : WalkOrder → List (List (List ℕ)) → ℕ
places_in ByRow cells = columns cells
places_in ByColumn cells = length cells

-- a cell is on a line, at a place in a band
abbrev pub on_line : WalkOrder → ℕ → Band ℕ → ℕ → ℕ → Bool
on_line order line places row column = line_of order row column == line && is_within places (place_of order row column)

-- a cell is changed for its content size; one without a content size isn't
abbrev pub for_content_size : (ℕ → List ℕ → List ℕ → Type 0) → (ℕ → ℕ → Option ℕ) → ℕ → ℕ → List ℕ → List ℕ → Type 0
for_content_size change content_sizes row column before after = if_sized change (content_sizes row column) before after

-- a cell has a content size, and changing it needs an allocation
abbrev pub needs : CellFilter → (ℕ → List ℕ → Type 0) → (ℕ → ℕ → Option ℕ) → ℕ → ℕ → List ℕ → Type 0
needs cell_filter in_place content_sizes row column text = NeedsMemoryIn cell_filter in_place (content_sizes row column) text

-- a walk over the chosen cells allocates for none of them
abbrev pub NeedNoMemory : (ℕ → ℕ → Bool) → (ℕ → ℕ → List ℕ → Type 0) → List (List (List ℕ)) → Type 0
NeedNoMemory chosen needs cells = (row column : ℕ) → IsInside cells row column → chosen row column ≡ true → needs row column (cell_at cells row column) → ⊥

-- ---- cells that are written anew, one after another, each as a relation for its row and column says

-- a text was added to the row that is begun
pub record AddsText (made : List ℕ → Type 0) (old new : Written) : Type 0 where
  pub text : List ℕ
  pub is_made : made text
  pub added : new ≡ record old { begun = old.begun ++ text ∷ [] }

-- the first texts of a row are made of those of some cells
pub record AreMade (change : ℕ → ℕ → List ℕ → List ℕ → Type 0) (cells : List (List (List ℕ))) (row count : ℕ) (texts : List (List ℕ)) : Type 0 where
  pub many : length texts ≡ count
  pub each : (column : ℕ) → column < count → change row column (cell_at cells row column) (slice_index_or texts column [])

-- a row was added, made of the cells of a row
pub record AddsRow (change : ℕ → ℕ → List ℕ → List ℕ → Type 0) (cells : List (List (List ℕ))) (row : ℕ) (old new : Written) : Type 0 where
  pub texts : List (List ℕ)
  pub are_made : AreMade change cells row (columns cells) texts
  pub added : new ≡ record { rows = old.rows ++ texts ∷ []; begun = [] }

-- the first rows are made of those of some cells, and no further row is begun
pub record RowsAreMade (change : ℕ → ℕ → List ℕ → List ℕ → Type 0) (cells : List (List (List ℕ))) (count : ℕ) (written : Written) : Type 0 where
  pub many : length written.rows ≡ count
  pub each : (row : ℕ) → row < count → AreMade change cells row (columns cells) (slice_index_or written.rows row [])
  pub begun : written.begun ≡ []
