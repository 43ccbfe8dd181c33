-- What a stream leaves, put together of what its parts left.
use Rattle.tabled_table.proofs.Names.{AreEnough, AreFirst, AreFurther, AreSniffed, Bool, CompactConfig, EndsSheet, Err, Frame, Halts}
use Rattle.tabled_table.proofs.Names.{HaltsWithin, HasPut, IsErrAnd, IsInReach, IsLaidOut, IsLimited, IsStreamed, Layout, LineSends, List}
use Rattle.tabled_table.proofs.Names.{MatchResult, Memory, None, Ok, Option, Range, Result, Sends, Sent, Sheet, Some, Stops, StopsBelow}
use Rattle.tabled_table.proofs.Names.{StreamRead, StreamSettings, StreamStops, Streams, TableError, WritesBelow, WritesLines, [], ahead, ap, append-nil}
use Rattle.tabled_table.proofs.Names.{append_assoc, arith, column_count, columns, sheet_columns, false, fill, filled_picture, filled_width}
use Rattle.tabled_table.proofs.Names.{flat_map, frame, if◌then◌else◌, inl, inr, is_empty, layout_columns, left_of, length, length-append}
use Rattle.tabled_table.proofs.Names.{limited, lines_above, lines_after, lines_after-joined, lines_before, max, picture, range_with_len}
use Rattle.tabled_table.proofs.Names.{reaches, refl, replicate, row_part, rule, rule_at, rule_if, slice_index, sniffed, spanned_of_compact}
use Rattle.tabled_table.proofs.Names.{stream_total, stream_widths, subst, sym, table_text, take, true, ℕ, ⊎_elim, ◌++◌, ◌<◌, ◌==◌, ◌^◌}
use Rattle.tabled_table.proofs.Names.{◌||◌, ◌∙◌, ◌∷◌, ◌≡◌, ◌≤◌, ◌⊎◌}
use Rattle.std.proofs.Common.{drop}
use Rattle.std.proofs.lemmas.List.{take-append-drop}
use Rattle.tabled_line.proofs.Below.{joined-below}
use Rattle.tabled_table.specs.Stream.Printed.{text_above}
use Rattle.tabled_table.specs.Stream.Progress.{HaltsBefore}
use Rattle.tabled_table.specs.Stream.Streams.{IsTooHighFirst, IsWholeStream}
use Rattle.tabled_table.proofs.Stream.Steps.{ends-below}
use Rattle.tabled_table.proofs.Stream.FirstRows.{few-first, few-more, length-limited, limited-more, read-more, read_of}
use Rattle.tabled_table.proofs.Stream.Measures.{columns-laid, not-zero, rule-below}

-- ---- the ends of a table that is printed row by row

-- the table of no rows
pub no_rows : StreamSettings → CompactConfig → List (List (List ℕ)) → Sheet
no_rows settings config ahead_rows = record { cells = []; config = spanned_of_compact config; widths = stream_widths settings config ahead_rows; heights = [] }

none-in-reach : (settings : StreamSettings) (config : CompactConfig) (ahead_rows : List (List (List ℕ)))
    → IsInReach settings config ahead_rows [] (no_rows settings config ahead_rows)
unfolding no_rows
none-in-reach settings config ahead_rows = record {
  streamed = record {
    as_many = refl;
    cells = λ k h. absurd (omega arith);
    settings_of = refl;
    widths = refl;
    as_high = refl;
    heights = λ k h. absurd (omega arith);
  };
  heights = λ k h. absurd (omega arith);
}

module _ {settings : StreamSettings} {config : CompactConfig} {ahead_rows : List (List (List ℕ))} {layout : Layout} where
  margin-above : (whole : ℕ) → IsLaidOut settings config ahead_rows layout → whole ≡ stream_total settings config ahead_rows
      → lines_above (no_rows settings config ahead_rows) layout.count 0
      ≡ replicate layout.frame.margin.top.size (fill layout.frame.margin.top.fill whole)
  unfolding lines_above no_rows
  margin-above whole l w =
      let m = config.margin.top in
      append-nil (replicate m.size (fill m.fill (filled_width (spanned_of_compact config) layout.count (stream_widths settings config ahead_rows))))
      ∙ ap (λ n. replicate m.size (fill m.fill (filled_width (spanned_of_compact config) n (stream_widths settings config ahead_rows)))) l.count
      ∙ ap (λ n. replicate m.size (fill m.fill n)) (sym w)
      ∙ ap (λ f. replicate f.margin.top.size (fill f.margin.top.fill whole)) (sym l.around)

  pub top-put : {R : Type 0} (r : Result R TableError) (whole : ℕ) (start new : Sent) (first begun : Bool) → IsLaidOut settings config ahead_rows layout
      → whole ≡ stream_total settings config ahead_rows → first ≡ true
      → WritesLines start false r new begun (replicate layout.frame.margin.top.size (fill layout.frame.margin.top.fill whole))
      → MatchResult r (λ _. HasPut settings config ahead_rows [] start layout first new begun)
      (λ e. HaltsWithin settings config ahead_rows [] start layout.count e new)
  top-put (Ok x) whole start new first begun l w f h =
      record {
        laid = l;
        sheet = no_rows settings config ahead_rows;
        in_reach = none-in-reach settings config ahead_rows;
        is_first = f;
        sends = subst (λ ls. LineSends start false new begun ls) (sym (margin-above whole l w)) h;
      }
  top-put (Err d) whole start new first begun l w f h =
      let P : List (List ℕ) → Type 0 = λ ls. Stops start d new (lines_after false ls) in
      record {
        sheet = no_rows settings config ahead_rows;
        in_reach = none-in-reach settings config ahead_rows;
        stops = let q = subst P (sym (margin-above whole l w)) h.stops in record { stops = q; more = q.front; out = refl };
      }

  whole-picture : {shown : List (List (List ℕ))} (t : Sheet) (whole : ℕ) → IsLaidOut settings config ahead_rows layout
      → IsStreamed settings config ahead_rows shown t → 0 < length shown → 0 < layout.count → whole ≡ stream_total settings config ahead_rows
      → picture t
      ≡ lines_above t layout.count (length shown)
      ++ (rule_if (layout_columns layout) layout.bottom ++ replicate layout.frame.margin.bottom.size (fill layout.frame.margin.bottom.fill whole))
  unfolding picture filled_picture lines_above rule
  whole-picture {shown} t whole l s h w e =
      let sheet = columns-laid l s h in
      let count : columns t.cells ≡ layout.count = ap (λ c. c.count) sheet in
      let some : length t.cells ≡ length shown = s.as_many in
      let filled : is_empty t.cells ≡ false =
      ap (λ b. b || (columns t.cells == 0)) (not-zero (length t.cells) (omega arith)) ∙ not-zero (columns t.cells) (omega arith) in
      let around : frame t.config ≡ layout.frame = ap frame s.settings_of ∙ sym l.around in
      let total : filled_width t.config layout.count t.widths ≡ whole =
      ap (λ g. filled_width g layout.count t.widths) s.settings_of ∙ ap (λ ws. filled_width (spanned_of_compact config) layout.count ws) s.widths
      ∙ ap (λ n. filled_width (spanned_of_compact config) n (stream_widths settings config ahead_rows)) l.count ∙ sym e in
      let below : rule_at t.config (length t.cells) (length t.cells) ≡ layout.bottom =
      ap (λ g. rule_at g (length t.cells) (length t.cells)) s.settings_of ∙ rule-below config (length t.cells) (omega arith) ∙ sym l.bottom in
      let top = (frame t.config).margin.top in
      let W = filled_width t.config layout.count t.widths in
      let T = replicate top.size (fill top.fill W) in
      let B : Frame → ℕ → List (List ℕ) = λ f n. replicate f.margin.bottom.size (fill f.margin.bottom.fill n) in
      let R = flat_map (row_part t) (range_with_len 0 (length shown)) in
      ap (λ b. if b then [] else filled_picture t (filled_width t.config (columns t.cells) t.widths)) filled
      ∙ ap (λ n. filled_picture t (filled_width t.config n t.widths)) count
      ∙ ap (λ n. T ++ (flat_map (row_part t)
      (range_with_len 0 n) ++ (rule_if (sheet_columns t) (rule_at t.config (length t.cells) (length t.cells)) ++ B (frame t.config) W))) some
      ∙ ap (λ c. T ++ (R ++ (rule_if c (rule_at t.config (length t.cells) (length t.cells)) ++ B (frame t.config) W))) sheet
      ∙ ap (λ c. T ++ (R ++ (rule_if (layout_columns layout) c ++ B (frame t.config) W))) below
      ∙ ap (λ f. T ++ (R ++ (rule_if (layout_columns layout) layout.bottom ++ B f W))) around
      ∙ ap (λ n. T ++ (R ++ (rule_if (layout_columns layout) layout.bottom ++ B layout.frame n))) total
      ∙ sym (append_assoc T R (rule_if (layout_columns layout) layout.bottom ++ B layout.frame whole))

  -- the end was printed below some rows
  pub ended-below : {Q : Type 0} {shown : List (List (List ℕ))} {first begun : Bool} {start old : Sent} (new : Sent) (after : Bool)
      (r : Result Q TableError) (whole : ℕ)
      → HasPut settings config ahead_rows shown start layout first old begun → 0 < length shown → 0 < layout.count
      → whole ≡ stream_total settings config ahead_rows
      → WritesLines old begun r new after (rule_if (layout_columns layout) layout.bottom
      ++ replicate layout.frame.margin.bottom.size (fill layout.frame.margin.bottom.fill whole))
      → EndsSheet settings config ahead_rows shown start r new
  ended-below {shown = shown} {start = start} new after r whole p h w e k =
      let P : ℕ → Type 0 = λ n. WritesBelow (text_above p.sheet n (length shown)) start r new (table_text p.sheet) in
      record {
        sheet = p.sheet;
        in_reach = p.in_reach;
        writes = subst P p.laid.count
            (ends-below new after _ (picture p.sheet) r p.sends k (whole-picture p.sheet whole p.laid p.in_reach.streamed h w e));
      }

high-more : (settings : StreamSettings) (config : CompactConfig) (ahead_rows : List (List (List ℕ))) (index : ℕ) (rest others : List (List (List ℕ)))
    → IsTooHighFirst settings config ahead_rows index rest → IsTooHighFirst settings config ahead_rows index (rest ++ others)
high-more settings config ahead_rows index [] others h = absurd h
high-more settings config ahead_rows index (row ∷ rest) others h = h

module _ {settings : StreamSettings} {config : CompactConfig} {rows : List (List (List ℕ))} {whole : Bool} {old new : Sent} {e : TableError} where
  halted-by : (some others shown rest : List (List (List ℕ))) → limited settings.rows rows ≡ some ++ others → some ≡ shown ++ rest
      → length rows ≤ max (ahead settings) (max 1 (length some)) → AreSniffed settings rows whole → 0 < column_count settings (sniffed settings rows)
      → stream_total settings config (sniffed settings rows) < 2 ^ 64
      → (HaltsBefore settings config (sniffed settings rows) shown rest old (column_count settings (sniffed settings rows)) e new
      ⊎ ((rest ≡ []) × HaltsWithin settings config (sniffed settings rows) shown old (column_count settings (sniffed settings rows)) e new))
      → StreamStops (read_of settings config rows whole) old e new
  halted-by some others shown rest p q m s c w (inl b) =
      let lines = lines_above b.sheet (column_count settings (sniffed settings rows)) (length shown) in
      let S : List ℕ → Type 0 = λ text. Sends old new text in
      inr (inl (record {
        shown = shown;
        rest = rest ++ others;
        sheet = b.sheet;
        begun = record {
          read = s;
          parts = p ∙ ap (λ l. l ++ others) q ∙ append_assoc shown rest others;
          streamed = b.in_reach.streamed;
          heights = b.in_reach.heights;
          columns = c;
          width = w;
        };
        taken = (let t = b.taken in omega (arith, ap length q, length-append shown rest));
        cause = ⊎_elim (λ h. inl (h.0, high-more settings config (sniffed settings rows) (length shown) rest others h.1))
            (λ h. inr (h.0, (let some = h.1 in omega (arith, length-append rest others)))) b.cause;
        sends = subst S (lines_after-joined lines) b.sends.sends;
      }))
  halted-by some others shown rest p q m s c w (inr h) =
      let b = h.1 in
      let count = column_count settings (sniffed settings rows) in
      inr (inr (inl (record {
        shown = shown;
        rest = rest ++ others;
        sheet = b.sheet;
        begun = record {
          read = s;
          parts = p ∙ ap (λ l. l ++ others) q ∙ append_assoc shown rest others;
          streamed = b.in_reach.streamed;
          heights = b.in_reach.heights;
          columns = c;
          width = w;
        };
        taken = omega (arith, ap length q, length-append shown rest, ap length h.0);
        stops = joined-below (lines_before b.sheet count (length shown)) (lines_above b.sheet count (length shown)) b.stops;
      })))

  -- printing of some of the rows halted
  pub halted : (some others : List (List (List ℕ))) → limited settings.rows rows ≡ some ++ others
      → length rows ≤ max (ahead settings) (max 1 (length some)) → AreSniffed settings rows whole → 0 < column_count settings (sniffed settings rows)
      → stream_total settings config (sniffed settings rows) < 2 ^ 64
      → Halts settings config (sniffed settings rows) some old (column_count settings (sniffed settings rows)) e new
      → StreamStops (read_of settings config rows whole) old e new
  halted some others p m s c w h = halted-by some others h.shown h.rest p h.parts m s c w h.halts

pub err-streams : {R : Type 0} {stream : StreamRead} {old new : Sent} (r : Result R TableError) (e : TableError) → IsErrAnd r (λ d. d ≡ e)
    → StreamStops stream old e new → Streams stream old r new
err-streams (Ok x) e i h = absurd i
err-streams {stream = stream} {old} {new} (Err d) e i h = let P : TableError → Type 0 = λ d. StreamStops stream old d new in subst P (sym i) h

reached : (limit : Option ℕ) (kept more : List (List (List ℕ))) → IsLimited (left_of limit (length kept)) (length more) false
    → reaches limit (length (kept ++ more))
reached None kept more h = let never = h in absurd (cc)
reached (Some n) kept more h = let l = h.1 refl in omega (arith, length-append kept more)

enough-by : (settings : StreamSettings) (kept more : List (List (List ℕ))) (whole : Bool) → AreSniffed settings (kept ++ more) whole
    → IsLimited (left_of settings.rows (length kept)) (length more) whole → AreEnough settings (kept ++ more) whole
enough-by settings kept more true s l = inl refl
enough-by settings kept more false (inl never) l = absurd (cc)
enough-by settings kept more false (inr h) l = inr (h, inl (reached settings.rows kept more l))

whole-stream : {settings : StreamSettings} {config : CompactConfig} {rows some : List (List (List ℕ))} {old new : Sent} {R : Type 0} {r : Result R TableError}
    → limited settings.rows rows ≡ some → stream_total settings config (sniffed settings rows) < 2 ^ 64
    → (h : EndsSheet settings config (sniffed settings rows) some old r new) → IsWholeStream settings config rows h.sheet
whole-stream {settings} {config} {rows} {some} p w h =
    let S : List (List (List ℕ)) → Type 0 = λ l. IsStreamed settings config (sniffed settings rows) l h.sheet in
    let H : List (List (List ℕ)) → Type 0 = λ l. (index : ℕ) → index < length l → slice_index h.sheet.heights index < 2 ^ 64 in
    record {
      streamed = subst S (sym p) h.in_reach.streamed;
      heights = λ _. subst H (sym p) h.in_reach.heights;
      width = λ _. w;
    }

-- the end was printed, or refused there
ended : {R : Type 0} {settings : StreamSettings} {config : CompactConfig}
    (rows : List (List (List ℕ))) {some : List (List (List ℕ))} {whole : Bool} {old new : Sent} (r : Result R TableError)
    → AreEnough settings rows whole → limited settings.rows rows ≡ some → stream_total settings config (sniffed settings rows) < 2 ^ 64
    → EndsSheet settings config (sniffed settings rows) some old r new → Streams (read_of settings config rows whole) old r new
ended rows (Ok x) enough p w h = record { enough = enough; sheet = h.sheet; streamed = whole-stream p w h; sends = h.writes }
ended {settings = settings} rows {old = old} {new} (Err e) enough p w h =
    let P : ℕ → Type 0 = λ n. StopsBelow (text_above h.sheet (column_count settings (sniffed settings rows)) n) old e new (table_text h.sheet) in
    inr (inr (inr (record { enough = enough; sheet = h.sheet; streamed = whole-stream p w h; stops = subst P (ap length (sym p)) h.writes })))

sniffed-first : {settings : StreamSettings} {kept : List (List (List ℕ))} (all : Bool) → AreFirst settings kept all → AreSniffed settings kept all
sniffed-first true f = inl refl
sniffed-first false f = inr (f.sniffed refl)

module _ {settings : StreamSettings} {config : CompactConfig} {kept : List (List (List ℕ))} {all : Bool} {old new : Sent} (f : AreFirst settings kept all)
    (c : 0 < column_count settings (sniffed settings kept)) (w : stream_total settings config (sniffed settings kept) < 2 ^ 64) where
  -- it went on behind them
  pub finished : {R : Type 0} (r : Result R TableError) (more : List (List (List ℕ))) (whole : Bool)
      → AreFurther settings.rows (length kept) all (length more) whole
      → (IsLimited (left_of settings.rows (length kept)) (length more) whole
      × EndsSheet settings config (sniffed settings kept) (limited settings.rows kept ++ more) old r new)
      ⊎ IsErrAnd r (λ e. Halts settings config (sniffed settings kept) (limited settings.rows kept ++ more) old
      (column_count settings (sniffed settings kept)) e new)
      → Streams (read_of settings config (kept ++ more) whole) old r new
  finished r more whole g (inl h) =
      let read = read-more f more whole g in
      let W : List (List (List ℕ)) → Type 0 = λ a. stream_total settings config a < 2 ^ 64 in
      let E : List (List (List ℕ)) → Type 0 = λ a. EndsSheet settings config a (limited settings.rows kept ++ more) old r new in
      ended (kept ++ more) r (enough-by settings kept more whole read.1 h.0) (limited-more settings.rows kept more g.permitted)
      (subst W (sym read.0) w) (subst E (sym read.0) h.1)
  finished (Ok x) more whole g (inr h) = absurd h
  finished (Err e) more whole g (inr h) =
      let read = read-more f more whole g in
      let W : List (List (List ℕ)) → Type 0 = λ a. stream_total settings config a < 2 ^ 64 in
      let C : List (List (List ℕ)) → Type 0 = λ a. 0 < column_count settings a in
      let H : List (List (List ℕ)) → Type 0 = λ a. Halts settings config a (limited settings.rows kept ++ more) old (column_count settings a) e new in
      halted (limited settings.rows kept ++ more) [] (limited-more settings.rows kept more g.permitted ∙ sym (append-nil (limited settings.rows kept ++ more)))
      (few-more f more whole g) read.1 (subst C (sym read.0) c) (subst W (sym read.0) w) (subst H (sym read.0) h)

-- ---- for the functions that print: what they know is told of vectors and of a layout

module _ {settings : StreamSettings} {config : CompactConfig} {kept : List (List (List ℕ))} {all : Bool} {layout : Layout} {total : ℕ}
    (f : AreFirst settings kept all) (l : IsLaidOut settings config (sniffed settings kept) layout) (some : 0 < layout.count)
    (t : total ≡ stream_total settings config (sniffed settings kept)) (b : total < 2 ^ 64) where
  in-range : stream_total settings config (sniffed settings kept) < 2 ^ 64
  in-range = subst (λ n. n < 2 ^ 64) t b

  some-columns : 0 < column_count settings (sniffed settings kept)
  some-columns = subst (λ n. 0 < n) l.count some

  pub put-halted : {R : Type 0} {old new : Sent} (r : Result R TableError) (e : TableError) (shown : List (List (List ℕ)))
      → shown ≡ limited settings.rows kept → IsErrAnd r (λ d. d ≡ e)
      → (n : ℕ) × Halts settings config (sniffed settings kept) (take n shown) old layout.count e new
      → Streams (read_of settings config (kept ++ []) all) old r new
  put-halted {old = old} {new} r e shown s i h =
      let H : ℕ → List (List (List ℕ)) → Type 0 = λ k rows. Halts settings config (sniffed settings kept) (take h.0 rows) old k e new in
      let P : List (List (List ℕ)) → Type 0 = λ rows. Streams (read_of settings config rows all) old r new in
      let laid = subst (λ rows. H (column_count settings (sniffed settings kept)) rows) s (subst (λ k. H k shown) l.count h.1) in
      let rows = limited settings.rows kept in
      let few = few-first f in
      subst P (sym (append-nil kept)) (err-streams r e i
      (halted (take h.0 rows) (drop h.0 rows) (sym (take-append-drop h.0 rows)) (omega arith) (sniffed-first all f)
      some-columns in-range laid))

  pub put-finished : {R : Type 0} {old new : Sent} (r : Result R TableError) (more : List (List (List ℕ))) (whole : Bool) (items count : ℕ)
      → items ≡ length kept → count ≡ length more → AreFurther settings.rows items all count whole
      → (IsLimited (left_of settings.rows items) (length more) whole
      × EndsSheet settings config (sniffed settings kept) (limited settings.rows kept ++ more) old r new)
      ⊎ IsErrAnd r (λ e. Halts settings config (sniffed settings kept) (limited settings.rows kept ++ more) old layout.count e new)
      → Streams (read_of settings config (kept ++ more) whole) old r new
  put-finished {old = old} {new} r more whole items count i n g h =
      let F : ℕ → ℕ → Type 0 = λ k m. AreFurther settings.rows k all m whole in
      let Q : ℕ → ℕ → Type 0 = λ k c.
      (IsLimited (left_of settings.rows k) (length more) whole
      × EndsSheet settings config (sniffed settings kept) (limited settings.rows kept ++ more) old r new)
      ⊎ IsErrAnd r (λ e. Halts settings config (sniffed settings kept) (limited settings.rows kept ++ more) old c e new) in
      finished f some-columns in-range r more whole (subst (λ m. F (length kept) m) n (subst (λ k. F k count) i g))
      (subst (λ c. Q (length kept) c) l.count (subst (λ k. Q k layout.count) i h))

-- nothing was printed, since the whole is too wide or memory was refused
pub unplanned : {R : Type 0} {settings : StreamSettings} (config : CompactConfig) {kept : List (List (List ℕ))} {all : Bool} (old : Sent)
    (r : Result R TableError) (e : TableError)
    → AreFirst settings kept all → 0 < column_count settings (sniffed settings kept) → 0 < length (limited settings.rows kept) → IsErrAnd r (λ d. d ≡ e)
    → ((e ≡ Range) × (2 ^ 64 ≤ stream_total settings config (sniffed settings kept))) ⊎ (e ≡ Memory)
    → Streams (read_of settings config kept all) old r old
unplanned {settings = settings} config {kept} {all} old r e f c s i h =
    err-streams r e i (inl (record {
      same = refl;
      cause = ⊎_elim (λ w. inl (w.0, sniffed-first all f, record { shown = s; columns = c }, w.1))
          (λ m. inr (m, (let most = length-limited settings.rows kept in omega arith))) h;
    }))
