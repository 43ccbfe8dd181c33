-- What is measured of rows, cell by cell and row by row.
use Rattle.tabled_table.proofs.Names.{AreFirst, CellStyle, ColumnSheet, CompactConfig, HorizontalLine, IsLaidOut, IsMarkedRow, IsStreamed}
use Rattle.tabled_table.proofs.Names.{Layout, List, MatchOption, None, Option, Sheet, Some, StreamSettings, [], ahead, ap, arith}
use Rattle.tabled_table.proofs.Names.{below_more, cases_lt, cell_at, get_or_past, column_count, columns, sheet_columns, content_width}
use Rattle.tabled_table.proofs.Names.{each-more, false, fits-none, flat_map, frame, get_or, get_or-map, greatest, if◌then◌else◌}
use Rattle.tabled_table.proofs.Names.{layout_columns, length, length-map, length-take, limited, lines_of, longest, map, map-append}
use Rattle.tabled_table.proofs.Names.{mapped_same, max, min, nat_tests, range_with_len, record_lines, refl, row_lines, row_part, rule}
use Rattle.tabled_table.proofs.Names.{rule_at, rule_if, rule_of, slice_index, slice_index_or, sniffed, spanned_of_compact, stream_width}
use Rattle.tabled_table.proofs.Names.{stream_widths, style_at, suc, sym, take, take_all, take_more, tallest, text_columns, true, widest}
use Rattle.tabled_table.proofs.Names.{width_at, zero, ℕ, ⊎_elim, ◌++◌, ◌+◌, ◌<◌, ◌==◌, ◌∙◌, ◌∷◌, ◌≡◌, ◌≢◌, ◌≤◌}
use Rattle.std.specs.Prelude.{Bool, unwrap_or}
use Rattle.std.proofs.lemmas.Simd.{map-map}
use Rattle.tabled_base.proofs.Lengthening.{length-lengthened}
use Rattle.tabled_config.specs.Frame.{bottom_line, if_any, inner_line, top_line}
use Rattle.tabled_table.specs.Stream.Row.{compact_style}

-- ---- the rows of a streamed table, as they are laid out

columns-head : (cells : List (List (List ℕ))) → columns cells ≡ length (get_or cells 0 [])
columns-head [] = refl
columns-head (row ∷ rows) = refl

-- a cut row has a cell in each column
pub length-cut : {mark : Option ℕ} (content : ℕ → ℕ) (count : ℕ) (row cells : List (List ℕ)) → IsMarkedRow mark content count row cells → length cells ≡ count
length-cut content count row cells h =
    let at = h.as_many in
    ap length h.whole ∙ length-lengthened count h.cut ∙ (let e : max count (length h.cut) ≡ count = omega arith in e)

not-same : (a b : ℕ) → a < b → (a == b) ≡ false
not-same a b h = grind (arith, nat_tests)

pub not-zero : (a : ℕ) → 0 < a → (a == 0) ≡ false
not-zero a h = grind (arith, nat_tests)

same : (a : ℕ) → (a == a) ≡ true
same a = grind (arith, nat_tests)

-- the horizontal line above a row of a compact configuration
pub rule-above : (config : CompactConfig) (rows index : ℕ) → index < rows
    → rule_at (spanned_of_compact config) rows index
    ≡ (if index == 0 then rule_at (spanned_of_compact config) 1 0 else rule_at (spanned_of_compact config) 2 1)
unfolding rule_at
rule-above config rows index h =
    let b = config.borders in
    ap (λ last. if index == 0 then if_any (top_line b) else (if last then if_any (bottom_line b) else if_any (inner_line b))) (not-same index rows h)

pub rule-below : (config : CompactConfig) (rows : ℕ) → 0 < rows
    → rule_at (spanned_of_compact config) rows rows ≡ rule_at (spanned_of_compact config) 1 1
unfolding rule_at
rule-below config rows h =
    let b = config.borders in
    ap (λ first. if first then if_any (top_line b) else (if rows == rows then if_any (bottom_line b) else if_any (inner_line b))) (not-zero rows h)
    ∙ ap (λ last. if last then if_any (bottom_line b) else if_any (inner_line b)) (same rows)

style-everywhere : (config : CompactConfig) (row : ℕ) → style_at (spanned_of_compact config) row ≡ (λ _. compact_style config)
unfolding style_at
style-everywhere config row = refl

part-of : ColumnSheet → Option HorizontalLine → ℕ → (ℕ → List ℕ) → (ℕ → CellStyle) → List (List ℕ)
part-of sheet line height text style = rule_if sheet line ++ row_lines (record { columns = sheet; height = height; text = text; style = style })

part-is : (t : Sheet) (k : ℕ)
    → row_part t k ≡ part-of (sheet_columns t) (rule_at t.config (length t.cells) k) (slice_index t.heights k) (cell_at t.cells k) (style_at t.config k)
unfolding row_part rule part-of
part-is t k = refl

pub widths-laid : {settings : StreamSettings} {config : CompactConfig} {ahead_rows : List (List (List ℕ))} {layout : Layout}
    → IsLaidOut settings config ahead_rows layout → stream_widths settings config ahead_rows ≡ map (width_at layout) (range_with_len 0 layout.count)
widths-laid {settings} {config} {ahead_rows} {layout} l =
    ap (λ n. map (stream_width settings config ahead_rows) (range_with_len 0 n)) (sym l.count)
    ∙ mapped_same (stream_width settings config ahead_rows) (width_at layout) layout.count
    (λ k h. let e = l.contents k h in let s = l.side in omega arith)

module _ {settings : StreamSettings} {config : CompactConfig} {ahead_rows rows : List (List (List ℕ))} {layout : Layout} {t : Sheet} where
  -- the columns of a table with a row
  pub columns-laid : IsLaidOut settings config ahead_rows layout → IsStreamed settings config ahead_rows rows t → 0 < length rows
      → sheet_columns t ≡ layout_columns layout
  columns-laid l s h =
      let wide : columns t.cells ≡ layout.count =
      columns-head t.cells
      ∙ length-cut (content_width settings ahead_rows) (column_count settings ahead_rows) (get_or rows 0 []) (get_or t.cells 0 []) (s.cells 0 h)
      ∙ sym l.count in
      let listed : t.widths ≡ map (width_at layout) (range_with_len 0 layout.count) = s.widths ∙ widths-laid l in
      let around : frame t.config ≡ layout.frame = ap frame s.settings_of ∙ sym l.around in
      let F : ℕ → List ℕ → _ → ColumnSheet = λ n ws f. record { count = n; width = slice_index ws; frame = f } in
      ap (λ n. F n t.widths (frame t.config)) wide ∙ ap (λ ws. F layout.count ws (frame t.config)) listed
      ∙ ap (λ f. F layout.count (map (width_at layout) (range_with_len 0 layout.count)) f) around

  -- a row with the line above it
  pub part-laid : IsLaidOut settings config ahead_rows layout → IsStreamed settings config ahead_rows rows t → (k : ℕ) → k < length rows
      → row_part t k ≡ record_lines layout (rule_of layout (k == 0)) (slice_index t.heights k) (slice_index_or t.cells k [])
  unfolding part-of
  part-laid l s k h =
      let above : rule_at t.config (length t.cells) k ≡ rule_of layout (k == 0) =
      ap (λ g. rule_at g (length t.cells) k) s.settings_of
      ∙ rule-above config (length t.cells) k (let e = s.as_many in omega arith)
      ∙ ap (λ a. if k == 0 then a else rule_at (spanned_of_compact config) 2 1) (sym l.top)
      ∙ ap (λ a. if k == 0 then layout.top else a) (sym l.inner) in
      let styled : style_at t.config k ≡ (λ _. layout.style) =
      ap (λ g. style_at g k) s.settings_of ∙ style-everywhere config k ∙ ap (λ x. λ (_ : ℕ). x) (sym l.style) in
      let sheet = columns-laid l s (omega arith) in
      part-is t k
      ∙ ap (λ a. part-of a (rule_at t.config (length t.cells) k) (slice_index t.heights k) (cell_at t.cells k) (style_at t.config k)) sheet
      ∙ ap (λ a. part-of (layout_columns layout) a (slice_index t.heights k) (cell_at t.cells k) (style_at t.config k)) above
      ∙ ap (λ a. part-of (layout_columns layout) (rule_of layout (k == 0)) (slice_index t.heights k) (cell_at t.cells k) a) styled

pub flat_map-same : {A : Type 0} (f g : ℕ → List A) (n : ℕ) → ((k : ℕ) → k < n → f k ≡ g k) → flat_map f (range_with_len 0 n) ≡ flat_map g (range_with_len 0 n)
flat_map-same f g zero h = refl
flat_map-same f g (suc n) h =
    let e : suc n ≡ n + 1 = omega arith in
    ap (λ m. flat_map f (range_with_len 0 m)) e ∙ each-more f n
    ∙ ap (λ l. l ++ f n) (flat_map-same f g n (λ k l. h k (omega arith)))
    ∙ ap (λ l. flat_map g (range_with_len 0 n) ++ l) (h n (omega arith))
    ∙ sym (each-more g n) ∙ ap (λ m. flat_map g (range_with_len 0 m)) (sym e)

pub greatest-pushed : (xs : List ℕ) (y : ℕ) → greatest (xs ++ y ∷ []) ≡ max (greatest xs) y
greatest-pushed [] y = omega arith
greatest-pushed (x ∷ xs) y = let e = greatest-pushed xs y in omega arith

-- of what a function makes of the first items, one item further
pub greatest-next : {A : Type 0} (f : A → ℕ) (xs : List A) (n : ℕ) (d : A) → n < length xs
    → greatest (map f (take (n + 1) xs)) ≡ max (greatest (map f (take n xs))) (f (get_or xs n d))
greatest-next f xs n d h =
    ap (λ l. greatest (map f l)) (take_more xs n d h)
    ∙ ap greatest (map-append f (take n xs) (get_or xs n d ∷ []))
    ∙ greatest-pushed (map f (take n xs)) (f (get_or xs n d))

mapped-as : {A B : Type 0} (f g : A → B) → ((x : A) → f x ≡ g x) → (xs : List A) → map f xs ≡ map g xs
mapped-as f g h [] = refl
mapped-as f g h (x ∷ xs) = ap (λ y. y ∷ map f xs) (h x) ∙ ap (λ ys. g x ∷ ys) (mapped-as f g h xs)

pub take-min : {A : Type 0} (n : ℕ) (xs : List A) → take (min n (length xs)) xs ≡ take n xs
take-min n xs =
    ⊎_elim (λ (l : n < length xs). ap (λ k. take k xs) (let e : min n (length xs) ≡ n = omega arith in e))
    (λ (l : length xs ≤ n). take_all (min n (length xs)) xs (omega arith) ∙ sym (take_all n xs l)) (cases_lt n (length xs))

-- a row further: what its cells' texts are
module _ {T : Type 0} (text : T → List ℕ) where
  pub row-at : (rows : List (List T)) (k : ℕ) (row : List T) → k < length rows → row ≡ get_or rows k []
      → get_or (map (map text) rows) k [] ≡ map text row
  row-at rows k row h e = get_or-map (map text) rows k [] [] h ∙ ap (map text) (sym e)

  pub widest-next : (rows : List (List T)) (k column : ℕ) (row : List T) (old new : ℕ) → k < length rows → row ≡ get_or rows k []
      → old ≡ widest (take k (map (map text) rows)) column → new ≡ max old (text_columns (get_or (map text row) column []))
      → new ≡ widest (take (k + 1) (map (map text) rows)) column
  widest-next rows k column row old new h e c n =
      let within : k < length (map (map text) rows) = omega (arith, length-map rows (map text)) in
      let f : List (List ℕ) → ℕ = λ r. text_columns (get_or r column []) in
      let at : f (get_or (map (map text) rows) k []) ≡ f (map text row) = ap f (row-at rows k row h e) in
      n ∙ ap (λ m. max m (f (map text row))) c ∙ ap (λ m. max (widest (take k (map (map text) rows)) column) m) (sym at)
      ∙ sym (greatest-next f (map (map text) rows) k [] within)

  pub tallest-next : (cells : List T) (k lines : ℕ) (cell : T) (height : ℕ) → k < length cells → cell ≡ get_or cells k cell
      → lines ≡ max 1 (greatest (map (λ t. length (lines_of t)) (take k (map text cells)))) → height ≡ length (lines_of (text cell))
      → max lines height ≡ max 1 (greatest (map (λ t. length (lines_of t)) (take (k + 1) (map text cells))))
  tallest-next cells k lines cell height h e c n =
      let within : k < length (map text cells) = omega (arith, length-map cells text) in
      let f : List ℕ → ℕ = λ t. length (lines_of t) in
      let at : f (get_or (map text cells) k []) ≡ f (text cell) = ap f (get_or-map text cells k cell [] h ∙ ap text (sym e)) in
      let next = greatest-next f (map text cells) k [] within in
      omega arith

  pub tallest-all : (cells : List T) (count lines : ℕ)
      → lines ≡ max 1 (greatest (map (λ t. length (lines_of t)) (take (min count (length cells)) (map text cells)))) → lines ≡ tallest count (map text cells)
  tallest-all cells count lines c =
      c ∙ ap (λ n. max 1 (greatest (map (λ t. length (lines_of t)) (take n (map text cells))))) (ap (λ n. min count n) (sym (length-map cells text)))
      ∙ ap (λ l. max 1 (greatest (map (λ t. length (lines_of t)) l))) (take-min count (map text cells))

-- ---- what each column leaves, a cell further

pub widen-done : (old mid new : List ℕ) (n v : ℕ) (f : ℕ → ℕ) → ((k : ℕ) → k < n → get_or mid k 0 ≡ max (get_or old k 0) (f k))
    → ((k : ℕ) → n ≤ k → get_or mid k 0 ≡ get_or old k 0) → get_or new n 0 ≡ max (get_or mid n 0) v
    → ((k : ℕ) → k ≢ n → get_or new k 0 ≡ get_or mid k 0) → v ≡ f n → (k : ℕ) → k < n + 1 → get_or new k 0 ≡ max (get_or old k 0) (f k)
widen-done old mid new n v f done kept at others vis =
    below_more (λ k. get_or new k 0 ≡ max (get_or old k 0) (f k)) n (λ k h. others k (omega arith) ∙ done k h)
    (at ∙ ap (λ m. max m v) (kept n (omega arith)) ∙ ap (λ m. max (get_or old n 0) m) vis)

pub widen-all : (old new : List ℕ) (texts : List (List ℕ)) (m count : ℕ)
    → ((k : ℕ) → k < m → get_or new k 0 ≡ max (get_or old k 0) (text_columns (get_or texts k [])))
    → ((k : ℕ) → m ≤ k → get_or new k 0 ≡ get_or old k 0) → min count (length texts) ≤ m
    → (k : ℕ) → k < count → get_or new k 0 ≡ max (get_or old k 0) (text_columns (get_or texts k []))
widen-all old new texts m count done kept w k h =
    ⊎_elim (λ l. done k l)
    (λ (l : m ≤ k).
    let none = ap text_columns (get_or_past texts k [] (omega arith)) in
    let empty = (fits-none 0).columns in
    let same = kept k l in omega arith) (cases_lt k m)

-- ---- rows that were taken: their first ones, as texts

module _ {T : Type 0} (text : T → List ℕ) (rows : List (List T)) where
  pub texts-long : length (map (map text) rows) ≡ length rows
  texts-long = length-map rows (map text)

  pub fewer-texts : (n : ℕ) → take (min n (length rows)) (map (map text) rows) ≡ take n (map (map text) rows)
  fewer-texts n = ap (λ m. take (min n m) (map (map text) rows)) (sym texts-long) ∙ take-min n (map (map text) rows)

  -- the columns of the rows that are read ahead, if these are all or the number of columns is set
  pub columns-first : {settings : StreamSettings} {all : Bool} (n count : ℕ) → AreFirst settings (map (map text) rows) all
      → n ≡ greatest (map length rows) → count ≡ unwrap_or settings.columns n → count ≡ column_count settings (sniffed settings (map (map text) rows))
  columns-first {settings} n count first e c = c ∙ by_cases settings.columns refl
    where
      texts : List (List (List ℕ))
      texts = map (map text) rows

      long : n ≡ longest texts
      long =
          e ∙ ap greatest (sym (map-map length (map text) rows ∙ mapped-as (λ r. length (map text r)) length (λ r. length-map r text) rows))

      by_cases : (o : Option ℕ) → settings.columns ≡ o → unwrap_or settings.columns n ≡ unwrap_or settings.columns (longest (sniffed settings texts))
      by_cases (Some k) is = ap (λ o. unwrap_or o n) is ∙ sym (ap (λ o. unwrap_or o (longest (sniffed settings texts))) is)
      by_cases None is =
          ap (unwrap_or settings.columns)
          (long
          ∙ ap longest (sym (take_all (ahead settings) texts
          (⊎_elim (λ (few : length texts ≤ ahead settings). few)
          (λ one. absurd (let none = ap (λ o. unwrap_or o 0) is in omega (arith, none, one.1))) first.needed))))

-- the first of rows, whose number is known
module _ {T : Type 0} (text : T → List ℕ) (rows : List (List T)) {len : ℕ} (long : len ≡ length rows) where
  pub sniffed-long : (settings : StreamSettings) (n a : ℕ) → n ≡ min a len → a ≡ ahead settings
      → length (sniffed settings (map (map text) rows)) ≡ n
  sniffed-long settings n a e f = omega (arith, long, length-take (ahead settings) (map (map text) rows), texts-long text rows)

  -- those that are shown
  pub shown-texts : (limit : Option ℕ) (n : ℕ) → MatchOption limit (n ≡ len) (λ m. n ≡ min m len)
      → take n (map (map text) rows) ≡ limited limit (map (map text) rows)
  shown-texts None n e = take_all n (map (map text) rows) (omega (arith, e, long, texts-long text rows))
  shown-texts (Some m) n e = ap (λ k. take k (map (map text) rows)) (e ∙ ap (min m) long) ∙ fewer-texts text rows m

  pub shown-long : (limit : Option ℕ) (n : ℕ) → MatchOption limit (n ≡ len) (λ m. n ≡ min m len)
      → length (limited limit (map (map text) rows)) ≡ n
  shown-long None n e = texts-long text rows ∙ sym (e ∙ long)
  shown-long (Some m) n e = omega (arith, e, long, length-take m (map (map text) rows), texts-long text rows)

  pub shown-within : (limit : Option ℕ) (n : ℕ) → MatchOption limit (n ≡ len) (λ m. n ≡ min m len) → n ≤ length rows
  shown-within None n e = omega (arith, e, long)
  shown-within (Some m) n e = omega (arith, e, long)
