-- A table that is printed, one row further.
use Rattle.tabled_table.proofs.Names.{Bool, CompactConfig, Err, Halts, HaltsWithin, HasPut, IsCutCell, IsErrAnd, IsInReach, IsLaidOut}
use Rattle.tabled_table.proofs.Names.{IsMarkedRow, IsStreamed, Layout, LineSends, LineStops, List, Memory, Ok, Option, PutsNext, Range, Result, Sent}
use Rattle.tabled_table.proofs.Names.{Sheet, StopsBelow, StreamSettings, TableError, WritesBelow, WritesLines, [], ap, append-nil}
use Rattle.tabled_table.proofs.Names.{append_assoc, arith, below_more, column_count, content_at, content_height, content_width, each-more}
use Rattle.tabled_table.proofs.Names.{false, fill, filled_width, flat_map, frame, get_or, get_or_append_left, inl, inr, join_with_byte}
use Rattle.tabled_table.proofs.Names.{length, get_or-take, length-append, length-map, length-take, lengthened, lines_above, lines_after}
use Rattle.tabled_table.proofs.Names.{map, take, lines_after-joined, lines_before, min, range_with_len, record_lines}
use Rattle.tabled_table.proofs.Names.{refl, replicate, row_part, rule_of, sends-along, stream_height, subst, sym, ℕ, ⊎_elim, ◌++◌, ◌+◌, ◌<◌}
use Rattle.tabled_table.proofs.Names.{◌==◌, ◌^◌, ◌∙◌, ◌∷◌, ◌≡◌, ◌≤◌, ◌⊎◌}
use Rattle.std.proofs.Common.{add-one, OnOk}
use Rattle.std.proofs.lemmas.List.{get_or_push, take-map}
use Rattle.tabled_line.proofs.Below.{joined-below, lines-below}
use Rattle.tabled_line.proofs.Leading.{lines-further}
use Rattle.tabled_table.specs.Stream.Row.{PutsCut}
use Rattle.tabled_table.proofs.Stream.WholeTexts.{IsCutAs, above-kept, chosen-first, followed, followed-streamed, part-kept}
use Rattle.tabled_table.proofs.Stream.Measures.{flat_map-same, not-zero, part-laid}

-- ---- texts that are sent below lines that are out

-- lines were sent, and printing others below them is the end
pub ends-below : {R : Type 0} {a b : Sent} {q : Bool} {xs : List (List ℕ)} (c : Sent) (after : Bool) (ys whole : List (List ℕ)) (r : Result R TableError)
    → LineSends a false b q xs → WritesLines b q r c after ys → whole ≡ xs ++ ys
    → WritesBelow (join_with_byte 10 xs) a r c (join_with_byte 10 whole)
ends-below {a = a} c after ys whole (Ok x) h k w =
    let both = lines-further h k w in
    sends-along a c _ _ both.sends (lines_after-joined whole)
ends-below {xs = xs} c after ys whole (Err e) h k w = joined-below xs whole (lines-below whole h k w)

-- ---- rows that are cut and printed

-- what holds of each entry holds of each of one more
pub each-pushed : {A : Type 0} (P : ℕ → A → Type 0) (xs : List A) (y d : A) (n : ℕ) → length xs ≡ n
    → ((k : ℕ) → k < n → P k (get_or xs k d)) → P n y → (k : ℕ) → k < n + 1 → P k (get_or (xs ++ y ∷ []) k d)
each-pushed P xs y d n e before here =
    below_more (λ k. P k (get_or (xs ++ y ∷ []) k d)) n
    (λ k h. subst (P k) (sym (get_or_append_left xs (y ∷ []) d k (omega arith))) (before k h))
    (subst (P n) (sym (get_or_push xs y d n e)) here)

-- the first cells are cut, and the row is filled up
pub cut_first : {A : Type 0} (mark : Option ℕ) (text : A → List ℕ) (content : ℕ → ℕ) (count m : ℕ) (cells first : List A) (cut : List (List ℕ))
    → first ≡ take m cells → m ≡ min count (length cells) → length cut ≡ length first
    → ((k : ℕ) → k < length first → IsCutCell mark (content k) (get_or (map text first) k []) (get_or cut k []))
    → IsMarkedRow mark content count (map text cells) (lengthened count cut)
cut_first mark text content count m cells first cut e f g each =
    let long : length first ≡ m = ap length e ∙ length-take m cells ∙ omega (arith, f) in
    let same : map text first ≡ take m (map text cells) = ap (map text) e ∙ sym (take-map text m cells) in
    record {
      cut = cut;
      as_many = g ∙ long ∙ f ∙ ap (min count) (sym (length-map cells text));
      each = λ k b.
          let within : k < m = omega (arith, b, g, long) in
          subst (λ t. IsCutCell mark (content k) t (get_or cut k [])) (ap (λ ts. get_or ts k []) same ∙ get_or-take m (map text cells) k [] within)
          (each k (omega (arith, b, g)));
      whole = refl;
    }

-- ---- a table that is printed, one row further

length-pushed : {A : Type 0} (xs : List A) (y : A) (n : ℕ) → length xs ≡ n → length (xs ++ y ∷ []) ≡ n + 1
length-pushed xs y n e = omega (arith, length-append xs (y ∷ []))

module _ {settings : StreamSettings} {config : CompactConfig} {ahead_rows : List (List (List ℕ))} {layout : Layout} where
  -- a row that is cut as the layout says is cut as the settings do
  cut-laid : {row cells : List (List ℕ)} → IsLaidOut settings config ahead_rows layout → IsMarkedRow layout.mark (content_at layout) layout.count row cells
      → IsMarkedRow settings.mark (content_width settings ahead_rows) (column_count settings ahead_rows) row cells
  cut-laid {row} {cells} l c = record {
    cut = c.cut;
    as_many = c.as_many ∙ ap (λ n. min n (length row)) l.count;
    each = λ k b.
        subst (λ m. IsCutCell m (content_width settings ahead_rows k) (get_or row k []) (get_or c.cut k [])) l.mark
        (subst (λ w. IsCutCell layout.mark w (get_or row k []) (get_or c.cut k [])) (l.contents k (let m = c.as_many in omega arith)) (c.each k b));
    whole = c.whole ∙ ap (λ n. lengthened n c.cut) l.count;
  }

  streamed-more : {shown : List (List (List ℕ))} {t : Sheet} {row cells : List (List ℕ)} {height : ℕ}
      → IsLaidOut settings config ahead_rows layout → IsStreamed settings config ahead_rows shown t → IsMarkedRow layout.mark (content_at layout) layout.count row cells
      → height ≡ stream_height settings config ahead_rows (length shown) row
      → IsStreamed settings config ahead_rows (shown ++ row ∷ []) (followed t (cells ∷ []) (height ∷ []))
  streamed-more {shown} {t} {row} {cells} {height} l s c h =
      let H : ℕ → List (List ℕ) → ℕ → Type 0 = λ k r x. x ≡ stream_height settings config ahead_rows (length shown + k) r in
      let first : length shown ≡ length shown + 0 = omega arith in
      followed-streamed (row ∷ []) (cells ∷ []) (height ∷ []) s
      (record { as_many = refl; each = chosen-first (IsCutAs settings ahead_rows) [] [] row [] cells [] (cut-laid l c) (λ k b. absurd (omega arith)) }) refl
      (chosen-first H [] 0 row [] height [] (h ∙ ap (λ n. stream_height settings config ahead_rows n row) first) (λ k b. absurd (omega arith)))

  lines-more : {shown : List (List (List ℕ))} {t : Sheet} (row cells : List (List ℕ)) (height : ℕ)
      → IsLaidOut settings config ahead_rows layout → IsStreamed settings config ahead_rows shown t
      → IsStreamed settings config ahead_rows (shown ++ row ∷ []) (followed t (cells ∷ []) (height ∷ []))
      → lines_above (followed t (cells ∷ []) (height ∷ [])) layout.count (length shown + 1)
      ≡ lines_above t layout.count (length shown) ++ record_lines layout (rule_of layout (length shown == 0)) height cells
  unfolding lines_above
  lines-more {shown} {t} row cells height l s m =
      let n = length shown in
      let u = followed t (cells ∷ []) (height ∷ []) in
      let longer = length-pushed shown row n refl in
      let margin = (frame t.config).margin in
      let above = replicate margin.top.size (fill margin.top.fill (filled_width t.config layout.count t.widths)) in
      let L : ℕ → List (List ℕ) → ℕ → List (List ℕ) = λ k r h. record_lines layout (rule_of layout (k == 0)) h r in
      let old : (k : ℕ) → k < n → row_part u k ≡ row_part t k = part-kept (cells ∷ []) (height ∷ []) s in
      let last : row_part u n ≡ L n cells height =
      part-laid l m n (omega arith)
      ∙ ap (λ h. L n (get_or (t.cells ++ cells ∷ []) n []) h) (get_or_push t.heights height 0 n s.as_high)
      ∙ ap (λ r. L n r height) (get_or_push t.cells cells [] n s.as_many) in
      ap (λ x. above ++ x) (each-more (row_part u) n ∙ ap (λ x. x ++ row_part u n) (flat_map-same (row_part u) (row_part t) n old)
      ∙ ap (λ x. flat_map (row_part t) (range_with_len 0 n) ++ x) last)
      ∙ sym (append_assoc above (flat_map (row_part t) (range_with_len 0 n)) (L n cells height))

  reach-more : {shown : List (List (List ℕ))} {t : Sheet} {row cells : List (List ℕ)} {height : ℕ}
      → IsLaidOut settings config ahead_rows layout → IsInReach settings config ahead_rows shown t → IsMarkedRow layout.mark (content_at layout) layout.count row cells
      → height ≡ stream_height settings config ahead_rows (length shown) row → height < 2 ^ 64
      → IsInReach settings config ahead_rows (shown ++ row ∷ []) (followed t (cells ∷ []) (height ∷ []))
  reach-more {shown} {t} {row} {cells} {height} l r c h f =
      let n = length shown in
      let longer = length-pushed shown row n refl in
      record {
        streamed = streamed-more l r.streamed c h;
        heights = λ k b. each-pushed (λ _ x. x < 2 ^ 64) t.heights height 0 n r.streamed.as_high r.heights f k (omega arith);
      }

  pub put-more : {shown : List (List (List ℕ))} {row cells : List (List ℕ)} {height : ℕ} {start old new : Sent} {first begun begun' : Bool}
      → HasPut settings config ahead_rows shown start layout first old begun → IsMarkedRow layout.mark (content_at layout) layout.count row cells
      → LineSends old begun new begun' (record_lines layout (rule_of layout first) height cells)
      → height ≡ stream_height settings config ahead_rows (length shown) row → height < 2 ^ 64
      → HasPut settings config ahead_rows (shown ++ row ∷ []) start layout false new begun'
  put-more {shown} {row} {cells} {height} {start} {old} {new} {first} p cut sends h f =
      let more = reach-more p.laid p.in_reach cut h f in
      let longer = length-pushed shown row (length shown) refl in
      record {
        laid = p.laid;
        sheet = followed p.sheet (cells ∷ []) (height ∷ []);
        in_reach = more;
        is_first = sym (not-zero (length (shown ++ row ∷ [])) (omega arith));
        sends = lines-further p.sends sends
            (ap (λ n. lines_above (followed p.sheet (cells ∷ []) (height ∷ [])) layout.count n) longer
            ∙ lines-more row cells height p.laid p.in_reach.streamed more.streamed
            ∙ ap (λ b. lines_above p.sheet layout.count (length shown) ++ record_lines layout (rule_of layout b) height cells) (sym p.is_first));
      }

  pub put-stopped : {shown : List (List (List ℕ))} {row cells : List (List ℕ)} {height : ℕ} {start old new : Sent} {first begun : Bool} {error : TableError}
      → HasPut settings config ahead_rows shown start layout first old begun → IsMarkedRow layout.mark (content_at layout) layout.count row cells
      → LineStops old begun error new (record_lines layout (rule_of layout first) height cells)
      → height ≡ stream_height settings config ahead_rows (length shown) row → height < 2 ^ 64
      → HaltsWithin settings config ahead_rows (shown ++ row ∷ []) start layout.count error new
  put-stopped {shown} {row} {cells} {height} {start} {old} {new} {first} {begun} {error} p cut stops h f =
      let more = reach-more p.laid p.in_reach cut h f in
      let longer = length-pushed shown row (length shown) refl in
      let t = followed p.sheet (cells ∷ []) (height ∷ []) in
      let lines = lines_above t layout.count (length (shown ++ row ∷ [])) in
      let P : List (List ℕ) → Type 0 = λ above. StopsBelow (lines_after false above) start error new (lines_after false lines) in
      let above : lines_above p.sheet layout.count (length shown) ≡ lines_before t layout.count (length (shown ++ row ∷ [])) =
      sym (above-kept (cells ∷ []) (height ∷ []) layout.count p.in_reach.streamed)
      ∙ sym (ap (λ n. lines_before t layout.count n) (longer ∙ add-one (length shown))) in
      record {
        sheet = t;
        in_reach = more;
        stops = subst P above (lines-below lines p.sends stops
            (ap (λ n. lines_above t layout.count n) longer
            ∙ lines-more row cells height p.laid p.in_reach.streamed more.streamed
            ∙ ap (λ b. lines_above p.sheet layout.count (length shown) ++ record_lines layout (rule_of layout b) height cells) (sym p.is_first)));
      }

-- ---- the next row of a stream is printed, or refused

abbrev pub padded : Layout → ℕ → ℕ
padded layout lines = lines + (layout.style.padding.top.size + layout.style.padding.bottom.size)

module _ {settings : StreamSettings} {config : CompactConfig} {ahead_rows shown : List (List (List ℕ))} {layout : Layout} {start old : Sent}
    {first begun : Bool} where
  -- the height of the next row
  padded-is : (row : List (List ℕ)) (lines : ℕ) → HasPut settings config ahead_rows shown start layout first old begun
      → lines ≡ content_height settings ahead_rows (length shown) row → padded layout lines ≡ stream_height settings config ahead_rows (length shown) row
  padded-is row lines p h =
      ap (λ s. lines + (s.padding.top.size + s.padding.bottom.size)) p.laid.style
      ∙ ap (λ n. n + (config.padding.top.size + config.padding.bottom.size)) h

  -- printing halts before the row
  pub halts-before : (row : List (List ℕ)) (error : TableError) (new : Sent) → HasPut settings config ahead_rows shown start layout first old begun → new ≡ old
      → ((error ≡ Range) × (2 ^ 64 ≤ stream_height settings config ahead_rows (length shown) row)) ⊎ (error ≡ Memory)
      → Halts settings config ahead_rows (shown ++ row ∷ []) start layout.count error new
  halts-before row error new p same cause =
      let S : Sent → Type 0 = λ s. LineSends start false s begun (lines_above p.sheet layout.count (length shown)) in
      record {
        shown = shown;
        rest = row ∷ [];
        parts = refl;
        halts =
            inl (record {
              sheet = p.sheet;
              in_reach = p.in_reach;
              begun = begun;
              sends = subst S (sym same) p.sends;
              taken = omega arith;
              cause = ⊎_elim (λ h. inl h) (λ m. inr (m, omega arith)) cause;
            });
      }

pub next-put : {R : Type 0} (r : Result R TableError) (layout : Layout) (first first' begun begun' : Bool) (old new : Sent) (height lines : ℕ)
    (row cut : List (List ℕ)) → IsMarkedRow layout.mark (content_at layout) layout.count row (lengthened layout.count cut)
    → PutsCut (record { layout = layout; rule = rule_of layout first; height = height; cells = cut }) old begun r new begun'
    → OnOk r (first' ≡ false) → height ≡ padded layout lines → height < 2 ^ 64 → PutsNext lines row layout first old begun r first' new begun'
next-put (Ok x) layout first first' begun begun' old new height lines row cut c (inl m) f e b settings config ahead_rows shown start p h = absurd m.0
next-put (Ok x) layout first first' begun begun' old new height lines row cut c (inr w) f e b settings config ahead_rows shown start p h =
    let P : Bool → Type 0 = λ v. HasPut settings config ahead_rows (shown ++ row ∷ []) start layout v new begun' in
    subst P (sym f) (put-more p c w (e ∙ padded-is row lines p h) b)
next-put (Err d) layout first first' begun begun' old new height lines row cut c (inl m) f e b settings config ahead_rows shown start p h =
    halts-before row d new p m.1 (inr m.0)
next-put (Err d) layout first first' begun begun' old new height lines row cut c (inr w) f e b settings config ahead_rows shown start p h =
    record {
      shown = shown ++ row ∷ [];
      rest = [];
      parts = sym (append-nil (shown ++ row ∷ []));
      halts = inr (refl, put-stopped p c w (e ∙ padded-is row lines p h) b);
    }

pub next-refused : {R : Type 0} (r : Result R TableError) (e : TableError) (layout : Layout) (first begun : Bool) (old : Sent) (lines : ℕ) (row : List (List ℕ))
    → IsErrAnd r (λ d. d ≡ e) → e ≡ Memory → PutsNext lines row layout first old begun r first old begun
next-refused (Ok x) e layout first begun old lines row i m settings config ahead_rows shown start p h = absurd i
next-refused (Err d) e layout first begun old lines row i m settings config ahead_rows shown start p h = halts-before row d old p refl (inr (i ∙ m))
