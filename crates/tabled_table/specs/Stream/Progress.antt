-- Of private steps: no public call promises this.
-- How far a stream was printed.
use Rattle.std.specs.Prelude.{◌≡◌, ◌≢◌, ℕ, ◌+◌, ◌-◌, ◌==◌, ◌^◌, ◌<◌, ◌≤◌, ◌⊎◌, Bool, true, false, List, [], ◌∷◌, ◌++◌, Option, Some, None}
use Rattle.std.specs.Prelude.{Result, Ok, Err, MatchResult, length, slice_index, take, unwrap_or}
use Rattle.std.specs.Result.{IsErrAnd}
use Rattle.tabled_base.specs.declared.error.TableError.{TableError}
use Rattle.tabled_base.specs.declared.error.TableError.TheVariants.{Memory, Range}
use Rattle.tabled_config.specs.Frame.{frame_of}
use Rattle.tabled_config.specs.Settings.{rule_at}
use Rattle.tabled_config.specs.Spanned.{spanned_of_compact}
use Rattle.tabled_config.specs.declared.compact.CompactConfig.{CompactConfig}
use Rattle.tabled_line.specs.Leading.{LineSends, lines_after}
use Rattle.tabled_grid.specs.Picture.{table_text}
use Rattle.tabled_line.specs.Sent.{Sent}
use Rattle.tabled_line.specs.StopsBelow.{StopsBelow}
use Rattle.tabled_size.specs.Sheet.{Sheet}
use Rattle.tabled_table.specs.declared.iter_table.layout.Layout.{Layout}
use Rattle.tabled_table.specs.declared.iter_table.settings.StreamSettings.{StreamSettings}
use Rattle.tabled_table.specs.Stream.Printed.{WritesBelow, lines_above, lines_before, text_above}
use Rattle.tabled_table.specs.Stream.Row.{compact_style, content_at}
use Rattle.tabled_table.specs.Stream.Streamed.{IsStreamed, ahead, column_count, content_height, content_width, sniffed}
use Rattle.tabled_table.specs.Stream.Streams.{IsTooHighFirst, Streams, stream_total}
use Rattle.std.specs.declared.option.Option.{Option}
use Rattle.tabled_records.specs.Reading.{ReadsTo}

-- a layout for these settings and the rows that were read ahead
pub record IsLaidOut (settings : StreamSettings) (config : CompactConfig) (ahead_rows : List (List (List ℕ))) (layout : Layout) : Type 0 where
  pub count : layout.count ≡ column_count settings ahead_rows
  pub contents : (column : ℕ) → column < layout.count → content_at layout column ≡ content_width settings ahead_rows column
  pub mark : layout.mark ≡ settings.mark
  pub side : layout.side ≡ config.padding.left.size + config.padding.right.size
  pub around : layout.frame ≡ frame_of config.borders config.margin
  pub style : layout.style ≡ compact_style config
  pub top : layout.top ≡ rule_at (spanned_of_compact config) 1 0
  pub inner : layout.inner ≡ rule_at (spanned_of_compact config) 2 1
  pub bottom : layout.bottom ≡ rule_at (spanned_of_compact config) 1 1

-- the sheet of these rows, whose heights are in range
pub record IsInReach (settings : StreamSettings) (config : CompactConfig) (ahead_rows shown : List (List (List ℕ))) (t : Sheet) : Type 0 where
  pub streamed : IsStreamed settings config ahead_rows shown t
  pub heights : (index : ℕ) → index < length shown → slice_index t.heights index < 2 ^ 64

-- the top margin and these rows were written since the start
pub record HasPut (settings : StreamSettings) (config : CompactConfig) (ahead_rows shown : List (List (List ℕ))) (start : Sent)
    (layout : Layout) (first : Bool) (now : Sent) (begun : Bool) : Type 0 where
  pub laid : IsLaidOut settings config ahead_rows layout
  pub sheet : Sheet
  pub in_reach : IsInReach settings config ahead_rows shown sheet
  pub is_first : first ≡ (length shown == 0)
  pub sends : LineSends start false now begun (lines_above sheet layout.count (length shown))

-- printing stops before a row that is too tall, or for which an allocation failed; no row after it
-- was read
pub record HaltsBefore (settings : StreamSettings) (config : CompactConfig) (ahead_rows shown rest : List (List (List ℕ))) (start : Sent)
    (count : ℕ) (error : TableError) (now : Sent) : Type 0 where
  pub sheet : Sheet
  pub in_reach : IsInReach settings config ahead_rows shown sheet
  pub begun : Bool
  pub sends : LineSends start false now begun (lines_above sheet count (length shown))
  pub taken : length rest ≤ 1
  pub cause : ((error ≡ Range) × IsTooHighFirst settings config ahead_rows (length shown) rest) ⊎ ((error ≡ Memory) × (0 < length rest))

-- the sink failed in the top margin or in the last row, and the lines above that row are written
pub record HaltsWithin (settings : StreamSettings) (config : CompactConfig) (ahead_rows shown : List (List (List ℕ))) (start : Sent)
    (count : ℕ) (error : TableError) (now : Sent) : Type 0 where
  pub sheet : Sheet
  pub in_reach : IsInReach settings config ahead_rows shown sheet
  pub stops : StopsBelow (lines_after false (lines_before sheet count (length shown))) start error now (lines_after false (lines_above sheet count (length shown)))

-- printing stops at one of these rows
pub record Halts (settings : StreamSettings) (config : CompactConfig) (ahead_rows rows : List (List (List ℕ))) (start : Sent)
    (count : ℕ) (error : TableError) (now : Sent) : Type 0 where
  pub shown : List (List (List ℕ))
  pub rest : List (List (List ℕ))
  pub parts : rows ≡ shown ++ rest
  pub halts : HaltsBefore settings config ahead_rows shown rest start count error now
      ⊎ ((rest ≡ []) × HaltsWithin settings config ahead_rows shown start count error now)

-- what printing these rows leaves, by its result
abbrev pub PutsRows : {R : Type 0} → StreamSettings → CompactConfig → List (List (List ℕ)) → List (List (List ℕ)) → Sent → Layout → Result R TableError
    → Bool → Sent → Bool → Type 0
PutsRows settings config ahead_rows rows start layout (Ok _) first now begun = HasPut settings config ahead_rows rows start layout first now begun
PutsRows settings config ahead_rows rows start layout (Err error) first now begun = Halts settings config ahead_rows rows start layout.count error now

-- what printing the next row leaves, which has `lines` lines for text
abbrev pub PutsNext : {R : Type 0} → ℕ → List (List ℕ) → Layout → Bool → Sent → Bool → Result R TableError → Bool → Sent → Bool → Type 0
PutsNext lines row layout first old begun result first' new begun' =
    (settings : StreamSettings) (config : CompactConfig) (ahead_rows shown : List (List (List ℕ))) (start : Sent)
    → HasPut settings config ahead_rows shown start layout first old begun → lines ≡ content_height settings ahead_rows (length shown) row
    → PutsRows settings config ahead_rows (shown ++ row ∷ []) start layout result first' new begun'

-- what writing the first rows leaves, of which `many` were read ahead
abbrev pub PutsFirst : {R : Type 0} → StreamSettings → ℕ → List (List (List ℕ)) → Layout → Bool → Sent → Bool → Result R TableError
    → Bool → Sent → Bool → Type 0
PutsFirst settings many rows layout first old begun result first' new begun' =
    (config : CompactConfig) (ahead_rows : List (List (List ℕ))) (start : Sent) → length ahead_rows ≡ many
    → HasPut settings config ahead_rows [] start layout first old begun
    → MatchResult result (λ _. HasPut settings config ahead_rows rows start layout first' new begun')
    (λ error. (count : ℕ) × Halts settings config ahead_rows (take count rows) start layout.count error new)

-- further rows were written after those that were read ahead
abbrev pub HasPutMore : ℕ → List (List (List ℕ)) → Layout → Bool → Sent → Bool → Bool → Sent → Bool → Type 0
HasPutMore lines more layout first old begun first' new begun' =
    (settings : StreamSettings) (config : CompactConfig) (ahead_rows shown : List (List (List ℕ))) (start : Sent)
    → length ahead_rows ≤ length shown → lines ≡ unwrap_or settings.height 1 → HasPut settings config ahead_rows shown start layout first old begun
    → HasPut settings config ahead_rows (shown ++ more) start layout first' new begun'

-- printing stops at one of these further rows
abbrev pub HaltsMore : ℕ → List (List (List ℕ)) → Layout → Bool → Sent → Bool → TableError → Sent → Type 0
HaltsMore lines more layout first old begun error new =
    (settings : StreamSettings) (config : CompactConfig) (ahead_rows shown : List (List (List ℕ))) (start : Sent)
    → length ahead_rows ≤ length shown → lines ≡ unwrap_or settings.height 1 → HasPut settings config ahead_rows shown start layout first old begun
    → Halts settings config ahead_rows (shown ++ more) start layout.count error new

-- how many more rows may be shown after `count`; no limit stays none
abbrev pub left_of : Option ℕ → ℕ → Option ℕ
left_of None count = None
left_of (Some limit) count = Some (limit - count)

-- the rows that were read are as many as are shown at most, or all there are
abbrev pub IsLimited : Option ℕ → ℕ → Bool → Type 0
IsLimited None count whole = whole ≡ true
IsLimited (Some limit) count whole = (count ≤ limit) × (whole ≡ false → count ≡ limit)

-- no more rows were read than are shown at most
abbrev pub IsPermitted : Option ℕ → ℕ → Type 0
IsPermitted None count = Unit {0}
IsPermitted (Some limit) count = count ≤ limit

-- the rows that were read before the first byte: all there are, or those that are read ahead, or
-- else one that is shown
pub record AreFirst (settings : StreamSettings) (kept : List (List (List ℕ))) (all : Bool) : Type 0 where
  pub sniffed : all ≡ false → ahead settings ≤ length kept
  pub needed : (length kept ≤ ahead settings)
      ⊎ ((length kept ≤ 1) × (0 < unwrap_or settings.columns 0) × (settings.rows ≢ Some 0))
  pub none : all ≡ false → length kept ≡ 0 → (unwrap_or settings.columns 0 ≡ 0) ⊎ (settings.rows ≡ Some 0)

-- how many rows were read after these: none if these were all, and no more than may be shown
pub record AreFurther (limit : Option ℕ) (kept : ℕ) (all : Bool) (more : ℕ) (whole : Bool) : Type 0 where
  pub permitted : IsPermitted (left_of limit kept) more
  pub none : all ≡ true → (more ≡ 0) × (whole ≡ true)

-- what printing the end of a table leaves: its whole text, or a beginning of it that has all rows
pub record EndsSheet {R : Type 0} (settings : StreamSettings) (config : CompactConfig) (ahead_rows shown : List (List (List ℕ))) (start : Sent)
    (result : Result R TableError) (now : Sent) : Type 0 where
  pub sheet : Sheet
  pub in_reach : IsInReach settings config ahead_rows shown sheet
  pub writes : WritesBelow (text_above sheet (column_count settings ahead_rows) (length shown)) start result now (table_text sheet)

-- what writing the end of a table leaves, below its last row
abbrev pub PutsBottom : {R : Type 0} → Layout → ℕ → Bool → Sent → Bool → Result R TableError → Sent → Type 0
PutsBottom layout total first old begun result new =
    (settings : StreamSettings) (config : CompactConfig) (ahead_rows shown : List (List (List ℕ))) (start : Sent)
    → 0 < length shown → 0 < layout.count → total ≡ stream_total settings config ahead_rows
    → HasPut settings config ahead_rows shown start layout first old begun
    → EndsSheet settings config ahead_rows shown start result new

-- what printing what follows the rows that were read first leaves: as many further rows as may be
-- shown and the end of the table are written, or the sink failed in the end of the table, or
-- printing stopped before. If further rows may be shown, those that are read ahead are written
abbrev pub FinishesBehind : {R : Type 0} → Option ℕ → ℕ → ℕ → Bool → List (List (List ℕ)) → Layout → Bool → Sent → Bool → Result R TableError → Sent → Type 0
FinishesBehind left lines total whole more layout first old begun result new =
    (settings : StreamSettings) (config : CompactConfig) (ahead_rows shown : List (List (List ℕ))) (start : Sent)
    → (left ≢ Some 0 → length ahead_rows ≤ length shown) → lines ≡ unwrap_or settings.height 1 → 0 < length shown → 0 < layout.count
    → total ≡ stream_total settings config ahead_rows → HasPut settings config ahead_rows shown start layout first old begun
    → (IsLimited left (length more) whole × EndsSheet settings config ahead_rows (shown ++ more) start result new)
    ⊎ IsErrAnd result (λ e. Halts settings config ahead_rows (shown ++ more) start layout.count e new)

-- what writing the entire table leaves: with this layout and total width, it is the stream of the
-- rows that were read first, and of further ones
abbrev pub StreamsLaidOut : {R : Type 0} → StreamSettings → Layout → ℕ → List (List (List ℕ)) → List (List (List ℕ)) → Bool → Sent
    → Result R TableError → Sent → Type 0
StreamsLaidOut settings layout total rows more whole old result new =
    (config : CompactConfig) → IsLaidOut settings config (sniffed settings rows) layout
    → total ≡ stream_total settings config (sniffed settings rows)
    → Streams (record { settings = settings; config = config; rows = rows ++ more; whole = whole }) old result new

-- ---- rows that are read after others

-- further rows are read: if reading `kept` ended at `between`, then reading `kept` and `more` ends
-- at `to`
abbrev pub ReadsOn : {S W T A : Type 0} (row_steps : S → Option W → S → Type 0) (cells_become : W → T → Type 0)
    (cell_steps : T → Option A → T → Type 0) (kept : List (List A)) (all : Bool) (between : S) (more : List (List A)) (whole : Bool) (to : S) → Type 0
ReadsOn {S} row_steps cells_become cell_steps kept all between more whole to =
    (from : S) → ReadsTo row_steps cells_become cell_steps from kept all between → ReadsTo row_steps cells_become cell_steps from (kept ++ more) whole to
