-- Tables that are narrowed.
use Rattle.tabled_set.proofs.Names.{AreChanged, AreChangedBefore, Bool, ByColumn, CompleteDimension, Err, IfErr, IsFilledIn, List}
use Rattle.tabled_set.proofs.Names.{MatchOption, Memory, NarrowingOutOfRange, Narrows, None, Ok, Option, Range, Result, Sheet, Shrinks}
use Rattle.tabled_set.proofs.Names.{Some, SpannedConfig, TableError, WalkOrder, ap, arith, at, cases_Bool, cell_at, columns, cond}
use Rattle.tabled_set.proofs.Names.{effective, effective_sizes, emptied, estimated_heights, estimated_widths, false, filled_width}
use Rattle.tabled_set.proofs.Names.{for_content_size, heights_length, heights_of, if_sized, if◌then◌else◌, inl, inr, is_empty, le-leb}
use Rattle.tabled_set.proofs.Names.{length, length-take, minimums, nat_le, nat_lt, nat_tests, permitted_width, refl, side_columns}
use Rattle.tabled_set.proofs.Names.{side_padding, subst, sym, take, take-length, total_width, true, widths_length, widths_of, ℕ, ⊎_elim}
use Rattle.tabled_set.proofs.Names.{◌&&◌, ◌+◌, ◌-◌, ◌<◌, ◌^◌, ◌∙◌, ◌≡◌, ◌≤◌, ◌⊎◌}
use Rattle.std.proofs.Common.{IsOk, IsTrue, unwrap_or, is_some, IfNone, OnErr, IfSome}
use Rattle.std.proofs.lemmas.List.{get_or-take}
use Rattle.tabled_set.specs.Common.{FitsMinimums, IsTooWide}
use Rattle.tabled_set.specs.CellChanges.{NeedsMemoryIn, needs, if_taken, CellFilter}
use Rattle.tabled_set.specs.Increased.{StopsFilling}
use Rattle.tabled_set.specs.Priorities.{Shrinking, shrinking_to}
use Rattle.tabled_set.specs.SizedTable.{SizedTable, sized_table}
use Rattle.tabled_set.specs.declared.narrowing.ColumnWidths.{ColumnWidths}
use Rattle.tabled_set.specs.Narrowed.{AreShrunk, content_of, FitsAlready, HasWidths, StopsBeforeNarrowing, StopsNarrowing, WiderOutOfRange, is_permitted}
use Rattle.tabled_set.specs.Narrowed.{IsFound, MustNarrow, content_width, less_padding}
use Rattle.tabled_config.specs.Settings.{style_at}
use Rattle.tabled_entity.specs.Changes.{shared}
use Rattle.tabled_config.specs.declared.sides.Indent.{Indent}
use Rattle.tabled_config.specs.declared.sides.Sides.{Sides}
use Rattle.tabled_set.proofs.ChangingCells.{AreChanged-as, match-false, match-last, match-map, match-true}
use Rattle.std.specs.Result.{IsErrAnd}
use Rattle.tabled_set.proofs.Emptied.{minimums-length}
use Rattle.tabled_set.proofs.Totals.{short-widths}
use Rattle.tabled_set.specs.Minimums.{own_padding}

-- the test of a column by a list of minimums that goes as far as the widths
pub permitted-content_size : (t : Sheet) (widths mins : List ℕ) (column : ℕ) → mins ≡ take (length widths) (minimums t.cells t.config) → is_permitted widths (minimums t.cells t.config) column ≡ is_permitted widths mins column
permitted-content_size t widths mins column e = ⊎_elim
    (λ l. let below : column < length widths = grind (arith, nat_tests) in
    ap (λ m. nat_lt column (length widths) && nat_le m (at widths column)) (sym (get_or-take (length widths) (minimums t.cells t.config) column 0 below) ∙ ap (λ m. at m column) (sym e)))
    (λ l. rw l refl)
    (cases_Bool (nat_lt column (length widths)))

-- cells that are changed for these content sizes are changed for those of their columns
module _ (t : Sheet) (widths : List ℕ) {sizes : ℕ → ℕ → Option ℕ} (sized : (row column : ℕ) → sizes row column ≡ content_width t widths row column) where
  sized-made : (change : ℕ → List ℕ → List ℕ → Type 0) {chosen : ℕ → ℕ → Bool} {old new : List (List (List ℕ))}
      → AreChanged chosen (for_content_size change sizes) old new
      → AreChanged chosen (for_content_size change (content_width t widths)) old new
  sized-made change {chosen} {old} {new} h =
      AreChanged-as h (λ r c inside taken made. subst (λ (o : Option ℕ). if_sized change o (cell_at old r c) (cell_at new r c)) (sized r c) made)

  -- so where the changes stopped
  sized-before : (cell_filter : CellFilter) (in_place : ℕ → List ℕ → Type 0) (makes : ℕ → List ℕ → List ℕ → Type 0) {order : WalkOrder} {chosen : ℕ → ℕ → Bool} {old new : List (List (List ℕ))}
      → AreChangedBefore order chosen (needs cell_filter in_place sizes) (for_content_size (if_taken cell_filter makes) sizes) old new
      → AreChangedBefore order chosen (needs cell_filter in_place (content_width t widths))
      (for_content_size (if_taken cell_filter makes) (content_width t widths)) old new
  sized-before cell_filter in_place makes {order} {chosen} {old} {new} h = record {
    row = h.row;
    column = h.column;
    inside = h.inside;
    stopped = h.stopped;
    wanting = subst (λ (o : Option ℕ). NeedsMemoryIn cell_filter in_place o (cell_at old h.row h.column)) (sized h.row h.column) h.wanting;
    changed = sized-made (if_taken cell_filter makes) h.changed;
  }

-- a width less the shared padding, and then less that of a cell
less-padded : (b : Bool) (width less own padding : ℕ) → less + own ≡ padding → less_padding (if b then Some (width - less) else None) own ≡ (if b then Some (width - padding) else None)
less-padded true width less own padding e = let same : width - less - own ≡ width - padding = omega (arith, e) in ap Some same
less-padded false width less own padding e = refl

-- the content widths of cells, by a list for the columns
pub content_widths-are : (t : Sheet) (widths mins : List ℕ) (content : ℕ → Option ℕ) (common : Option (Sides Indent)) → common ≡ shared t.config.padding → mins ≡ take (length widths) (minimums t.cells t.config)
    → ((column : ℕ) → content column ≡ permitted_width widths mins (side_columns common) column)
    → IfSome common (λ padding. (row column : ℕ) → (style_at t.config row column).padding ≡ padding)
    → (row column : ℕ) → less_padding (content column) (own_padding t.config row column) ≡ content_width t widths row column
content_widths-are t widths mins content common same fits listed everywhere row column =
    let own = if is_some common then 0 else side_padding t.config row column in
    ap (λ o. less_padding (content column) (if is_some o then 0 else side_padding t.config row column)) (sym same)
    ∙ ap (λ o. less_padding o own) (listed column)
    ∙ less-padded (is_permitted widths mins column) (at widths column) (side_columns common) own (side_padding t.config row column) (all_padding common everywhere)
    ∙ ap (λ b. if b then Some (at widths column - side_padding t.config row column) else None) (sym (permitted-content_size t widths mins column fits))
  where
    all_padding : (o : Option (Sides Indent)) → IfSome o (λ padding. (row column : ℕ) → (style_at t.config row column).padding ≡ padding)
        → side_columns o + (if is_some o then 0 else side_padding t.config row column) ≡ side_padding t.config row column
    all_padding None h = omega arith
    all_padding (Some padding) h = let same = ap (λ p. side_columns (Some p)) (h row column) in omega (arith, same)

-- ---- tables

-- ---- sizes that are filled in

pub filled-size : (stored : Option (List ℕ)) (estimates : List ℕ) (count : ℕ) → length estimates ≡ count → effective_sizes (Some (unwrap_or stored estimates)) estimates count ≡ effective_sizes stored estimates count
filled-size None estimates count long = ap (λ k. take k estimates) (sym long) ∙ take-length estimates
filled-size (Some sizes) estimates count long = refl

abbrev sheet : List (List (List ℕ)) → SpannedConfig → List ℕ → List ℕ → Sheet
sheet cells config widths heights = record { cells = cells; config = config; widths = widths; heights = heights }

-- the sizes that stand are the same where the same are stored
pub effective-same : (cells : List (List (List ℕ))) (config : SpannedConfig) (old new : CompleteDimension) → widths_of new ≡ widths_of old
    → heights_of new ≡ heights_of old → effective cells config new ≡ effective cells config old
effective-same cells config old new wide high =
    let standing = λ (w h : Option (List ℕ)). sheet cells config
    (effective_sizes w (estimated_widths cells config) (columns cells)) (effective_sizes h (estimated_heights cells config) (length cells)) in
    ap (λ w. standing w (heights_of new)) wide ∙ ap (standing (widths_of old)) high

-- and after they were filled in
pub effective-filled : (cells : List (List (List ℕ))) (config : SpannedConfig) (old new : CompleteDimension) → IsFilledIn old cells config new
    → effective cells config new ≡ effective cells config old
effective-filled cells config old new h =
    let widths = estimated_widths cells config in
    let heights = estimated_heights cells config in
    let wide = ap (λ o. effective_sizes o widths (columns cells)) h.widths
    ∙ filled-size (widths_of old) widths (columns cells) (widths_length cells config) in
    let high = ap (λ o. effective_sizes o heights (length cells)) h.heights
    ∙ filled-size (heights_of old) heights (length cells) (heights_length cells config) in
    ap (λ w. sheet cells config w (effective_sizes (heights_of new) heights (length cells))) wide
    ∙ ap (λ k. sheet cells config (effective_sizes (widths_of old) widths (columns cells)) k) high

-- ---- the widths to which columns shrink

pub effective-widths : (cells : List (List (List ℕ))) (config : SpannedConfig) (sizes : CompleteDimension) (stored widths : List ℕ) (count : ℕ) → widths_of sizes ≡ Some stored → count ≡ columns cells → widths ≡ take count stored → widths ≡ (effective cells config sizes).widths
effective-widths cells config sizes stored widths count s e w =
    w ∙ ap (λ k. take k stored) e ∙ ap (λ o. effective_sizes o (estimated_widths cells config) (columns cells)) (sym s)

pub effective-total : (cells : List (List (List ℕ))) (config : SpannedConfig) (sizes : CompleteDimension) (widths : List ℕ) (count : ℕ) → is_empty cells ≡ false → count ≡ columns cells → widths ≡ (effective cells config sizes).widths → filled_width config count widths ≡ total_width (effective cells config sizes)
effective-total cells config sizes widths count filled e w =
    ap (λ k. filled_width config k widths) e ∙ ap (filled_width config (columns cells)) w
    ∙ ap (λ b. cond b 0 (filled_width config (columns cells) (effective cells config sizes).widths)) (sym filled)

-- as many minimums as widths
pub minimums-fit : (cells : List (List (List ℕ))) (config : SpannedConfig) (sizes : CompleteDimension) (widths mins : List ℕ)
    → widths ≡ (effective cells config sizes).widths → mins ≡ take (length widths) (minimums cells config) → FitsMinimums widths mins
minimums-fit cells config sizes widths mins w m =
    let long = ap length m ∙ length-take (length widths) (minimums cells config) in
    let short = short-widths cells config sizes in
    inr (omega (arith, long, short, ap length w, minimums-length cells config))

-- ---- what narrowing leaves

module _ {P : Type 0} (shrinks : Shrinks P) (priority : P) (n : ℕ) (cells : List (List (List ℕ))) (config : SpannedConfig) (old : CompleteDimension) where
  abbrev how : Shrinking P
  how = shrinking_to shrinks priority n

  abbrev table : SizedTable
  table = sized_table cells config old

  found-old : (mid : CompleteDimension) (found : ColumnWidths) → HasWidths how table mid found
      → IsFound how (effective cells config old) found
  found-old mid found h = subst (λ t. IsFound how t found) (effective-filled cells config old mid h.filled) h.found

  pub must-narrow : (mid : CompleteDimension) (found : ColumnWidths) → HasWidths how table mid found
      → MustNarrow n cells config old
  must-narrow mid found h = record { some = h.some; wider = (found-old mid found h).wider }

  -- the widths that were found are stored
  pub are-shrunk : (mid new : CompleteDimension) (found : ColumnWidths) → HasWidths how table mid found
      → widths_of new ≡ Some found.widths.items → heights_of new ≡ None → AreShrunk how table (content_of found) new
  are-shrunk mid new found h stored cleared =
      let is = found-old mid found h in
      record {
        some = h.some;
        wider = is.wider;
        widths = found.widths.items;
        shrunk = is.shrunk;
        sized = is.sized;
        stored = stored;
        cleared = cleared;
      }

  -- and the cells are changed for their content widths
  pub narrows-shrunk : (change : ℕ → List ℕ → List ℕ → Type 0) (cells' : List (List (List ℕ))) (content : ℕ → ℕ → Option ℕ) (new : CompleteDimension)
      → AreShrunk how table content new → AreChanged (λ r c. true) (for_content_size change content) cells cells'
      → Narrows how change table cells' new
  narrows-shrunk change cells' content new h changed =
      let t = effective cells config old in
      let above : nat_le (total_width t) n ≡ false = let lt : n < total_width t = h.wider in grind (arith, nat_tests) in
      match-last _ _ h.some above (record {
        widths = h.widths;
        shrunk = h.shrunk;
        changed = sized-made t h.widths h.sized change changed;
        stored = h.stored;
        cleared = h.cleared;
      })

  -- an allocation failed at a cell
  pub stops-some : (change : ℕ → List ℕ → List ℕ → Type 0) (cell_filter : CellFilter) (in_place : ℕ → List ℕ → Type 0) (cells' : List (List (List ℕ)))
      (error : TableError) (mid : CompleteDimension) (found : ColumnWidths) → error ≡ Memory → HasWidths how table mid found
      → AreChangedBefore ByColumn (λ r c. true) (needs cell_filter in_place (content_of found))
      (for_content_size (if_taken cell_filter change) (content_of found)) cells cells'
      → StopsNarrowing how (record { cell_filter = cell_filter; in_place = in_place; change = change }) error table cells' mid
  stops-some change cell_filter in_place cells' error mid found e h changed =
      let is = found-old mid found h in
      let before = sized-before (effective cells config old) found.widths.items is.sized cell_filter in_place change changed in
      inr (record {
        wider = is.wider;
        filled = h.filled;
        stopped = inr (e, record { wider = is.wider; widths = found.widths.items; shrunk = is.shrunk; changed = before });
      })

-- ---- what fails

-- a call that doesn't fail where both lists are stored
pub fails-lacking : {A : Type 0} (stored : Bool) (r : Result A TableError) (e : TableError) → (IsTrue stored → IsOk r) → r ≡ Err e → stored ≡ false
fails-lacking {A} false r e h is = refl
fails-lacking {A} true r e h is = let ok : false ≡ true = subst (λ (s : Result A TableError). IsOk s) is (h refl) in sym ok

-- a measure that fails leaves the sizes
pub stops-measuring : (e cause : TableError) (sizes : CompleteDimension) → e ≡ cause → cause ≡ Range → StopsFilling e sizes sizes
stops-measuring e cause sizes is range = record { lacking = λ m. cc; same = refl }

-- the error that a call hands on
pub if-err : {T : Type 0} (P : TableError → Type 0) (r : Result T TableError) (e : TableError) → IsErrAnd r (λ d. d ≡ e) → P e → IfErr r P
if-err P (Ok x) e h p = absurd h
if-err P (Err d) e h p = subst P (sym h) p

-- a total that passes the range is that of the sizes before they were filled in
pub passes-before : (O : Type 0) (n : ℕ) (cells : List (List (List ℕ))) (config : SpannedConfig) (old mid : CompleteDimension) (e : TableError) → is_empty cells ≡ false → IsFilledIn old cells config mid → (e ≡ Memory) ⊎ ((e ≡ Range) × WiderOutOfRange n cells config mid) → (e ≡ Memory) ⊎ ((e ≡ Range) × NarrowingOutOfRange O n cells config old)
passes-before O n cells config old mid e some filled cause =
    let P : Sheet → Type 0 = λ t. (2 ^ 64 ≤ total_width t) ⊎ ((n < total_width t) × IsTooWide (emptied cells) config) in
    ⊎_elim (λ m. inl m) (λ h. inr (h.0, (some, inr (inr (subst P (effective-filled cells config old mid filled) h.1))))) cause

-- ---- what is found before a cell changes

-- the value of an option that holds one
pub at-some : {X : Type 0} (P : X → Type 0) (o : Option X) (x : X) → o ≡ Some x → IfSome o P → P x
at-some P o x is h = subst (λ o. IfSome o P) is h

pub at-none : {X : Type 0} (A : Type 0) (o : Option X) → o ≡ None → IfNone o A → A
at-none A o is h = subst (λ o. IfNone o A) is h

module _ (n k : ℕ) (cells : List (List (List ℕ))) (config : SpannedConfig) (old mid : CompleteDimension) (measured : k ≡ n)
    (some : is_empty cells ≡ false) (filled : IsFilledIn old cells config mid) where
  -- no widths are found for a table that isn't wider
  pub fits-already : {X : Type 0} (Q : X → Type 0) (o : Option X) → MatchOption o (total_width (effective cells config mid) ≤ k) Q
      → IfNone o (FitsAlready n cells config old mid)
  fits-already Q None h =
      let e = ap total_width (effective-filled cells config old mid filled) in
      let fits : total_width (effective cells config old) ≤ n = omega (arith, h, e, measured) in
      match-false (mid ≡ old) ((total_width (effective cells config old) ≤ n) × IsFilledIn old cells config mid) some (fits, filled)
  fits-already Q (Some x) h = tt

  -- those that are found
  pub has-widths : {P : Type 0} (shrinks : Shrinks P) (priority : P) (A : Type 0) (o : Option ColumnWidths)
      → MatchOption o A (IsFound (shrinking_to shrinks priority k) (effective cells config mid))
      → IfSome o (HasWidths (shrinking_to shrinks priority n) (sized_table cells config old) mid)
  has-widths shrinks priority A None h = tt
  has-widths shrinks priority A (Some found) h = record {
    some = some;
    filled = filled;
    found = subst (λ (m : ℕ). IsFound (shrinking_to shrinks priority m) (effective cells config mid) found) measured h;
  }

  -- an error of a table that is wider
  pub early-wider : {T : Type 0} (r : Result T TableError) → OnErr r (k < total_width (effective cells config mid))
      → IfErr r (λ e. StopsBeforeNarrowing n e cells config old mid)
  early-wider (Ok x) h = tt
  early-wider (Err e) h =
      let wide = subst (λ t. k < total_width t) (effective-filled cells config old mid filled) h in
      record { some = some; left = inr (omega (arith, wide, measured), filled) }

module _ {P : Type 0} (shrinks : Shrinks P) (priority : P) (change : ℕ → List ℕ → List ℕ → Type 0) (n : ℕ)
    (cells : List (List (List ℕ))) (config : SpannedConfig) (old mid : CompleteDimension) where
  -- a table that isn't wider is left so
  pub narrows-fitting : FitsAlready n cells config old mid → Narrows (shrinking_to shrinks priority n) change (sized_table cells config old) cells mid
  narrows-fitting h =
      match-map (is_empty cells) h (λ _ same. (refl, same))
      (λ _ left. match-true _ _ (le-leb (total_width (effective cells config old)) n left.0) (refl, left.1))

  -- an error before a cell has changed
  pub stops-early : (cell_filter : CellFilter) (in_place : ℕ → List ℕ → Type 0) (e : TableError) → StopsBeforeNarrowing n e cells config old mid
      → (is_empty cells ≡ false)
      × StopsNarrowing (shrinking_to shrinks priority n) (record { cell_filter = cell_filter; in_place = in_place; change = change }) e
      (sized_table cells config old) cells mid
  stops-early cell_filter in_place e h = (
    h.some,
    ⊎_elim (λ filling. inl (refl, filling)) (λ wide. inr (record { wider = wide.0; filled = wide.1; stopped = inl refl })) h.left,
  )

-- an error once the widths are found
pub early-found : {P : Type 0} (shrinks : Shrinks P) (priority : P) (n : ℕ) (cells : List (List (List ℕ))) (config : SpannedConfig)
    (old mid : CompleteDimension) (widths : ColumnWidths) (e : TableError)
    → HasWidths (shrinking_to shrinks priority n) (sized_table cells config old) mid widths
    → StopsBeforeNarrowing n e cells config old mid
early-found shrinks priority n cells config old mid widths e h =
    let wide = subst (λ t. n < total_width t) (effective-filled cells config old mid h.filled) h.found.wider in
    record { some = h.some; left = inr (wide, h.filled) }
