-- A streamed table that is like a `Table` is the table with estimated sizes.
use Rattle.tabled_table.proofs.Names.{AreEnough, Bool, CompactConfig, Err, IsMarkedRow, IsStreamed, List, Ok, PrintsStream, Result, Sends}
use Rattle.tabled_table.proofs.Names.{Sent, Sheet, SpannedConfig, StreamSettings, TableError, [], ap, append-nil, arith, column_count}
use Rattle.tabled_table.proofs.Names.{column_width, columns, content_width, estimated_heights, estimated_widths, false, get_or}
use Rattle.tabled_table.proofs.Names.{get_or-map-range_with_len, greatest, if◌then◌else◌, inl, inr, is_some, length}
use Rattle.tabled_table.proofs.Names.{length-map-range_with_len, limited, lines_of, longest, map, mapped_same, max, nat_lt, nat_tests, not}
use Rattle.tabled_table.proofs.Names.{range_with_len, reaches, refl, replicate, slice_index, sniffed, spanned_of_compact, stream_height}
use Rattle.tabled_table.proofs.Names.{stream_width, stream_widths, style_at, subst, suc, sym, table_text, take, take_all, tallest}
use Rattle.tabled_table.proofs.Names.{text_columns, true, unwrap_or, widest, zero, ℕ, ◌&&◌, ◌++◌, ◌+◌, ◌-◌, ◌<◌, ◌||◌, ◌∙◌, ◌≡◌, ◌≤◌}
use Rattle.std.proofs.Common.{OnOk}
use Rattle.std.proofs.lemmas.List.{ext_get_or}
use Rattle.tabled_text.proofs.Bridge.{some_line}
use Rattle.tabled_size.specs.Estimates.{needed_height, row_height}
use Rattle.tabled_size.specs.Sheet.{estimated}
use Rattle.tabled_size.proofs.Greatest.{greatest_below, greatest_ge, greatest_more}
use Rattle.tabled_table.specs.Stream.LikeTable.{AreMeasured, IsLikeTable, PrintsLikeTable}
use Rattle.tabled_table.specs.Stream.Streams.{StreamSource}
use Rattle.tabled_table.proofs.Stream.Marked.{cut_cell-kept, exact-whole}
use Rattle.tabled_table.proofs.Stream.Measures.{greatest-next}

-- ---- lists

-- the greatest of what a function makes of a list, by its places
greatest-listed : {A : Type 0} (f : A → ℕ) (xs : List A) (d : A) (n : ℕ) → n ≤ length xs → greatest_below (λ k. f (get_or xs k d)) n ≡ greatest (map f (take n xs))
greatest-listed f xs d zero h = refl
greatest-listed f xs d (suc n) h =
    let e : suc n ≡ n + 1 = omega arith in
    let F : ℕ → ℕ = λ k. f (get_or xs k d) in
    ap (greatest_below F) e ∙ greatest_more F n ∙ ap (λ m. max m (F n)) (greatest-listed f xs d n (omega arith))
    ∙ sym (greatest-next f xs n d (omega arith)) ∙ ap (λ m. greatest (map f (take m xs))) (sym e)

-- a number more for each is as much more for the greatest, where there is one
greatest-added : (f : ℕ → ℕ) (s n : ℕ) → greatest_below (λ k. f k + s) (n + 1) ≡ greatest_below f (n + 1) + s
greatest-added f s zero = greatest_more (λ k. f k + s) zero ∙ (let e = greatest_more f zero in omega arith)
greatest-added f s (suc n) =
    let e : suc n ≡ n + 1 = omega arith in
    let F : ℕ → ℕ = λ k. f k + s in
    let before : greatest_below F (suc n) ≡ greatest_below f (suc n) + s = ap (greatest_below F) e ∙ greatest-added f s n ∙ ap (λ m. greatest_below f m + s) (sym e) in
    let here = greatest_more F (suc n) in
    let there = greatest_more f (suc n) in
    omega arith

greatest-same : (f : ℕ → ℕ) (v n : ℕ) → ((k : ℕ) → k < n + 1 → f k ≡ v) → greatest_below f (n + 1) ≡ v
greatest-same f v zero h = greatest_more f zero ∙ (let e = h zero (omega arith) in omega arith)
greatest-same f v (suc n) h =
    let e : suc n ≡ n + 1 = omega arith in
    let before : greatest_below f (suc n) ≡ v = ap (greatest_below f) e ∙ greatest-same f v n (λ k b. h k (omega arith)) in
    let here = greatest_more f (suc n) in
    let last = h (suc n) (omega arith) in
    omega arith

-- ---- rows that are measured whole

module _ {settings : StreamSettings} {rows : List (List (List ℕ))} (a : AreMeasured settings rows) where
  pub all-sniffed : sniffed settings rows ≡ rows
  all-sniffed =
      let wide : is_some settings.width ≡ false = ap is_some a.no_width in
      let given : is_some settings.columns ≡ false = ap is_some a.no_columns in
      let sniff = a.sniffed in
      ap (λ b. take (if b && is_some settings.columns then 0 else settings.sniff) rows) wide ∙ take_all settings.sniff rows (omega arith)

  row-long : (index : ℕ) → index < length rows → length (get_or rows index []) ≡ columns rows
  row-long index b = a.rectangular index [] b

  by-place : (f : List (List ℕ) → ℕ) → greatest_below (λ k. f (get_or rows k [])) (length rows) ≡ greatest (map f rows)
  by-place f = greatest-listed f rows [] (length rows) (omega arith) ∙ ap (λ l. greatest (map f l)) (take_all (length rows) rows (omega arith))

  -- as many rows as one more than these
  fewer-rows : length rows - 1 + 1 ≡ length rows
  fewer-rows = let h = a.has_row in omega arith

  longest-columns : longest rows ≡ columns rows
  longest-columns =
      sym (by-place length) ∙ ap (greatest_below (λ k. length (get_or rows k []))) (sym fewer-rows)
      ∙ greatest-same (λ k. length (get_or rows k [])) (columns rows) (length rows - 1) (λ k b. row-long k (let e = fewer-rows in omega arith))

  pub counted-columns : column_count settings rows ≡ columns rows
  counted-columns = ap (λ given. unwrap_or given (longest rows)) a.no_columns ∙ longest-columns

  measured-width : (column : ℕ) → content_width settings rows column ≡ widest rows column
  measured-width column = ap (λ given. unwrap_or given (widest rows column)) a.no_width

  cell-room : (index column : ℕ) → index < length rows → text_columns (get_or (get_or rows index []) column []) ≤ content_width settings rows column
  cell-room index column b =
      let f : List (List ℕ) → ℕ = λ row. text_columns (get_or row column []) in
      let within = greatest_ge (λ k. f (get_or rows k [])) (length rows) index b in
      let place = by-place f in
      let width = measured-width column in
      omega arith

  -- what is shown of a row are its cut cells, without an empty one behind them
  pub row-cut : (index : ℕ) (cells : List (List ℕ)) → index < length rows
      → (c : IsMarkedRow settings.mark (content_width settings rows) (column_count settings rows) (get_or rows index []) cells) → (cells ≡ c.cut) × (length c.cut ≡ columns rows)
  row-cut index cells b c =
      let row = get_or rows index [] in
      let long = row-long index b in
      let count = counted-columns in
      let many = c.as_many in
      let none : column_count settings rows - length c.cut ≡ 0 = omega arith in
      (c.whole ∙ ap (λ n. c.cut ++ replicate n []) none ∙ append-nil c.cut, omega arith)

  module _ (config : CompactConfig) where
    pub width-same : (column : ℕ) → stream_width settings config rows column ≡ column_width rows (spanned_of_compact config) column
    unfolding column_width style_at
    width-same column =
        let f : List (List ℕ) → ℕ = λ row. text_columns (get_or row column []) in
        let g : ℕ → ℕ = λ k. f (get_or rows k []) in
        let width = measured-width column in
        let place = by-place f in
        let whole : greatest_below (λ k. g k + (config.padding.left.size + config.padding.right.size)) (length rows) ≡ greatest_below g (length rows) + (config.padding.left.size + config.padding.right.size) =
        ap (greatest_below (λ k. g k + (config.padding.left.size + config.padding.right.size))) (sym fewer-rows)
        ∙ greatest-added g (config.padding.left.size + config.padding.right.size) (length rows - 1)
        ∙ ap (λ n. greatest_below g n + (config.padding.left.size + config.padding.right.size)) fewer-rows in
        (let e : content_width settings rows column + (config.padding.left.size + config.padding.right.size) ≡ greatest_below g (length rows) + (config.padding.left.size + config.padding.right.size) = omega arith in e)
        ∙ sym whole

    pub widths-same : stream_widths settings config rows ≡ estimated_widths rows (spanned_of_compact config)
    unfolding estimated_widths
    widths-same =
        ap (λ n. map (stream_width settings config rows) (range_with_len 0 n)) counted-columns
        ∙ mapped_same (stream_width settings config rows) (column_width rows (spanned_of_compact config)) (columns rows) (λ k _. width-same k)

    -- the tallest cell of a row, whatever its padding is
    tallest-same : (index : ℕ) → index < length rows
        → tallest (column_count settings rows) (get_or rows index []) ≡ greatest_below (λ k. length (lines_of (get_or (get_or rows index []) k []))) (columns rows - 1 + 1)
    tallest-same index b =
        let row = get_or rows index [] in
        let f : List ℕ → ℕ = λ text. length (lines_of text) in
        let g : ℕ → ℕ = λ k. f (get_or row k []) in
        let long = row-long index b in
        let some = a.has_column in
        let n : columns rows - 1 + 1 ≡ columns rows = omega arith in
        let listed : greatest_below g (columns rows) ≡ greatest (map f (take (columns rows) row)) = greatest-listed f row [] (columns rows) (omega arith) in
        let first = greatest_ge g (columns rows - 1 + 1) 0 (omega arith) in
        let line = some_line (get_or row 0 []) in
        let one : 1 ≤ greatest_below g (columns rows - 1 + 1) = omega arith in
        ap (λ m. max 1 (greatest (map f (take m row)))) counted-columns ∙ ap (λ m. max 1 m) (sym listed ∙ ap (greatest_below g) (sym n))
        ∙ (let e : max 1 (greatest_below g (columns rows - 1 + 1)) ≡ greatest_below g (columns rows - 1 + 1) = omega arith in e)

    pub height-same : (index : ℕ) → index < length rows
        → stream_height settings config rows index (get_or rows index []) ≡ row_height rows (spanned_of_compact config) index
    unfolding row_height style_at
    height-same index b =
        let row = get_or rows index [] in
        let around = config.padding.top.size + config.padding.bottom.size in
        let g : ℕ → ℕ = λ k. length (lines_of (get_or row k [])) in
        let lines = tallest (column_count settings rows) row in
        let some = a.has_column in
        let inside : nat_lt index (length rows) ≡ true = grind (arith, nat_tests) in
        let n : columns rows - 1 + 1 ≡ columns rows = omega arith in
        ap (λ given. unwrap_or given (if is_some settings.width || not (nat_lt index (length rows)) then 1 else lines) + around) a.no_height
        ∙ ap (λ given. (if is_some given || not (nat_lt index (length rows)) then 1 else lines) + around) a.no_width
        ∙ ap (λ t. (if not t then 1 else lines) + around) inside
        ∙ ap (λ m. m + around) (tallest-same index b)
        ∙ sym (greatest-added g around (columns rows - 1)) ∙ ap (greatest_below (needed_height rows (spanned_of_compact config) index)) n

    pub heights-same : (heights : List ℕ) → length heights ≡ length rows
        → ((index : ℕ) → index < length rows → slice_index heights index ≡ stream_height settings config rows index (get_or rows index []))
        → heights ≡ estimated_heights rows (spanned_of_compact config)
    unfolding estimated_heights
    heights-same heights long each =
        let H = row_height rows (spanned_of_compact config) in
        ext_get_or 0 heights (map H (range_with_len 0 (length rows))) (long ∙ sym (length-map-range_with_len H 0 (length rows)))
        (λ k l. each k (omega arith) ∙ height-same k (omega arith) ∙ sym (get_or-map-range_with_len H 0 (length rows) k k 0 (omega arith) (omega arith)))

-- ---- rows that make a stream like a table

module _ {settings : StreamSettings} {rows : List (List (List ℕ))} (a : IsLikeTable settings rows) where
  -- no cell is cut
  row-kept : (index : ℕ) (cells : List (List ℕ)) → index < length rows
      → IsMarkedRow settings.mark (content_width settings rows) (column_count settings rows) (get_or rows index []) cells → cells ≡ get_or rows index []
  row-kept index cells b c =
      let row = get_or rows index [] in
      let cut = row-cut a.measured index cells b c in
      let long = a.measured.rectangular index [] b in
      let many = cut.1 in
      cut.0
      ∙ ext_get_or [] c.cut row (omega arith)
      (λ k l.
      let n = content_width settings rows k in
      let whole = exact-whole n (get_or row k []) (a.exact index [] b k [] (omega arith)) (cell-room a.measured index k b) in
      cut_cell-kept settings.mark n (get_or row k []) (get_or c.cut k []) whole (c.each k l))

  module _ (config : CompactConfig) where
    same-sheet : (t : Sheet) → IsStreamed settings config rows rows t → t ≡ estimated rows (spanned_of_compact config)
    same-sheet t s =
        let cells : t.cells ≡ rows =
        ext_get_or [] t.cells rows s.as_many (λ k l. row-kept k (get_or t.cells k []) (let m = s.as_many in omega arith) (s.cells k (let m = s.as_many in omega arith))) in
        let F : List (List (List ℕ)) → SpannedConfig → List ℕ → List ℕ → Sheet = λ c g w h. record { cells = c; config = g; widths = w; heights = h } in
        ap (λ c. F c t.config t.widths t.heights) cells ∙ ap (λ g. F rows g t.widths t.heights) s.settings_of
        ∙ ap (λ w. F rows (spanned_of_compact config) w t.heights) (s.widths ∙ widths-same a.measured config)
        ∙ ap (λ h. F rows (spanned_of_compact config) (estimated_widths rows (spanned_of_compact config)) h) (heights-same a.measured config t.heights s.as_high s.heights)

    pub like_table : (t : Sheet) → IsStreamed settings config (sniffed settings rows) (limited settings.rows rows) t → t ≡ estimated rows (spanned_of_compact config)
    like_table t s =
        let P : List (List (List ℕ)) → List (List (List ℕ)) → Type 0 = λ x y. IsStreamed settings config x y t in
        same-sheet t (subst (λ x. P x rows) (all-sniffed a.measured) (subst (λ y. P (sniffed settings rows) y) (ap (λ limit. limited limit rows) a.measured.no_rows) s))

  -- ---- what was printed

  all-came : (whole : Bool) → AreEnough settings rows whole → whole ≡ true
  all-came whole (inl h) = h
  all-came whole (inr (l, inl h)) = absurd (subst (λ limit. reaches limit (length rows)) a.measured.no_rows h)
  all-came whole (inr (l, inr h)) =
      let count = ap (column_count settings) (all-sniffed a.measured) ∙ counted-columns a.measured in
      let some = a.measured.has_column in
      absurd (omega arith)

pub like_printed : {R : Type 0} {from : StreamSource} {old new : Sent} (r : Result R TableError) → PrintsStream from old r new
    → OnOk r (PrintsLikeTable from old new)
like_printed (Err e) p = tt
like_printed {from = from} {old = old} {new} (Ok x) p =
    let s = p.streams in
    record {
      rows = p.rows;
      whole = p.whole;
      came = p.came;
      enough = s.enough;
      alike = λ a.
          let P : Sheet → Type 0 = λ t. Sends old new (table_text t) in
          (all-came a p.whole s.enough, subst P (like_table a from.config s.sheet s.streamed.streamed) s.sends);
    }
