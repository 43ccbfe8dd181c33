-- The table of the first of some rows goes on to the table of all.
use Rattle.tabled_table.proofs.Names.{AreTexts, ColumnSheet, CompactConfig, HorizontalLine, IsCut, IsCutCell, IsCutRow, IsMarkedRow, IsStreamed, IsUtf8, List}
use Rattle.tabled_table.proofs.Names.{None, Option, Sheet, StreamSettings, [], ap, append-nil, append_assoc, arith, cases_lt, column_count}
use Rattle.tabled_table.proofs.Names.{columns, sheet_columns, content_width, false, fill, filled_picture, filled_width, flat_map, frame}
use Rattle.tabled_table.proofs.Names.{get_or, get_or-append_right, get_or-take, get_or_append_left, if◌then◌else◌, inl, inr, is_empty}
use Rattle.tabled_table.proofs.Names.{join_with_byte, length, length-append, length-map-range_with_len, length-take, lengthened}
use Rattle.tabled_table.proofs.Names.{lines_above, lines_after, lines_after-append, lines_after-joined, map, picture, range_with_len, refl}
use Rattle.tabled_table.proofs.Names.{replicate, row_lines, row_part, rule, rule_at, rule_if, slice_index, stream_height, style_at, subst}
use Rattle.tabled_table.proofs.Names.{suc, sym, take, true, zero, ℕ, ◌++◌, ◌+◌, ◌-◌, ◌<◌, ◌==◌, ◌||◌, ◌∙◌, ◌∷◌, ◌≡◌, ◌≤◌}
use Rattle.std.proofs.Common.{chars, encode_utf8_all, All}
use Rattle.std.proofs.lemmas.Bool.{and_parts, cases_eq}
use Rattle.tabled_line.specs.Leading.{begun_after}
use Rattle.tabled_line.proofs.Each.{each-rest}
use Rattle.tabled_table.specs.Stream.GoesOn.{GoesOn}
use Rattle.tabled_table.proofs.Stream.Marked.{cut_cell-exists}
use Rattle.tabled_table.proofs.Stream.Measures.{flat_map-same, not-zero, rule-above}
use Rattle.tabled_table.proofs.Stream.StreamedTexts.{streamed_columns}
use Rattle.tabled_table.proofs.Stream.Widths.{listed}
use Rattle.std.proofs.lemmas.Str.{chars-encodes, chars-nil}
use lib.Utf8.{scalar, scalars}
use Rattle.tabled_text.specs.Cut.{IsParted}
use Rattle.tabled_text.specs.Measure.{char_count}
use Rattle.tabled_text.proofs.CutLemmas.{IsCut-filled, IsParted-end, IsParted-full, IsParted-wide, Walked, Walked-feed, Walked-push}
use Rattle.tabled_text.proofs.CutLemmas.{Walked-start}

-- ---- every text can be cut, and so can every row of texts

-- the cut text, where its beginning is known
filled : {n columns missing : ℕ} {text rest after : List ℕ} (w : Walked n text rest columns) → IsParted n (chars text) (chars w.front) missing after
    → (answer : List ℕ) × IsCut n text answer
filled {missing = missing} w p = (w.front ++ encode_utf8_all (replicate missing 0xFFFD), IsCut-filled w.utf8 p refl)

-- a beginning was walked over, and some characters are left
cut-from : (n columns : ℕ) (text cs : List ℕ) → scalars cs ≡ true → Walked n text (encode_utf8_all cs) columns → (answer : List ℕ) × IsCut n text answer
cut-from n columns text [] s w = filled w (IsParted-end w.front w chars-nil refl)
cut-from n columns text (c ∷ cs) s w =
    let rest = encode_utf8_all (c ∷ cs) in
    let after = encode_utf8_all cs in
    let tail : scalars cs ≡ true = (and_parts (scalar c) (scalars cs) s).1 in
    let utf8 : IsUtf8 rest = (c ∷ cs, (s, refl)) in
    let first : chars rest ≡ c ∷ chars after = chars-encodes (c ∷ cs) s ∙ ap (λ l. c ∷ l) (sym (chars-encodes cs tail)) in
    elim (cases_eq columns n) [
      | inl full ↦ filled w (IsParted-full w.front w full refl)
      | inr partly ↦ elim (cases_eq c 10) [
        | inl feed ↦ cut-from n 0 text cs tail (Walked-feed after c w utf8 refl first partly feed)
        | inr other ↦ elim (cases_lt n (columns + char_count c)) [
          | inl wide ↦ filled w (IsParted-wide after c w.front first other wide partly w refl)
          | inr room ↦ cut-from n (columns + char_count c) text cs tail (Walked-push after c w utf8 refl first partly other room)
        ]
      ]
    ]

-- every text can be cut
pub cut_exists : (n : ℕ) (text : List ℕ) → IsUtf8 text → (answer : List ℕ) × IsCut n text answer
cut_exists n text (cs, (s, e)) = cut-from n 0 text cs s (subst (λ rest. Walked n text rest 0) (sym e) (Walked-start n text))

-- ---- lists

-- for each entry of a list one was chosen
pub record AreChosen {A B : Type 0} (P : ℕ → A → B → Type 0) (d : A) (e : B) (xs : List A) (ys : List B) : Type 0 where
  pub as_many : length ys ≡ length xs
  pub each : (k : ℕ) → k < length xs → P k (get_or xs k d) (get_or ys k e)

pub chosen-first : {A B : Type 0} (P : ℕ → A → B → Type 0) (d : A) (e : B) (x : A) (xs : List A) (y : B) (ys : List B) → P 0 x y
    → ((k : ℕ) → k < length xs → P (suc k) (get_or xs k d) (get_or ys k e)) → (k : ℕ) → k < length (x ∷ xs) → P k (get_or (x ∷ xs) k d) (get_or (y ∷ ys) k e)
chosen-first P d e x xs y ys first others zero h = first
chosen-first P d e x xs y ys first others (suc k) h = others k (omega arith)

pub chosen : {A B : Type 0} (P : ℕ → A → B → Type 0) (d : A) (e : B) (xs : List A) → ((k : ℕ) → k < length xs → (y : B) × P k (get_or xs k d) y)
    → (ys : List B) × AreChosen P d e xs ys
chosen P d e [] f = ([], record { as_many = refl; each = λ k h. absurd (omega arith) })
chosen P d e (x ∷ xs) f =
    let first = f 0 (omega arith) in
    let others = chosen (λ k. P (suc k)) d e xs (λ k h. f (suc k) (omega arith)) in
    let many = others.1.as_many in
    (first.0 ∷ others.0, record { as_many = omega arith; each = chosen-first P d e x xs first.0 others.0 first.1 others.1.each })

-- every row of texts can be cut
marked_row_exists : (mark : Option ℕ) (content : ℕ → ℕ) (count : ℕ) (row : List (List ℕ)) → All IsUtf8 row
    → (cells : List (List ℕ)) × IsMarkedRow mark content count row cells
marked_row_exists mark content count row u =
    let P : ℕ → List ℕ → List ℕ → Type 0 = λ k text answer. IsCutCell mark (content k) text answer in
    let long = length-take count row in
    let c = chosen P [] [] (take count row) (λ k h. cut_cell-exists mark (content k) (get_or (take count row) k []) (subst IsUtf8 (sym (get_or-take count row k [] (omega arith))) (u k [] (omega arith)))) in
    let many = c.1.as_many in (
      lengthened count c.0,
      record {
        cut = c.0;
        as_many = omega arith;
        each = λ k h. subst (λ text. P k text (get_or c.0 k [])) (get_or-take count row k [] (omega arith)) (c.1.each k (omega arith));
        whole = refl;
      },
    )

pub cut_row_exists : (content : ℕ → ℕ) (count : ℕ) (row : List (List ℕ)) → All IsUtf8 row → (cells : List (List ℕ)) × IsCutRow content count row cells
cut_row_exists content count row u = marked_row_exists None content count row u

-- ---- the table of the first of some rows goes on to the table of all

-- ---- lists

-- what holds of the entries of two lists, and of those behind them, holds of all
each-joined : {A B : Type 0} (P : ℕ → A → B → Type 0) (xs ys : List A) (us vs : List B) (d : A) (e : B) → length us ≡ length xs
    → ((k : ℕ) → k < length xs → P k (get_or xs k d) (get_or us k e))
    → ((k : ℕ) → k < length ys → P (length xs + k) (get_or ys k d) (get_or vs k e))
    → (k : ℕ) → k < length (xs ++ ys) → P k (get_or (xs ++ ys) k d) (get_or (us ++ vs) k e)
each-joined P xs ys us vs d e same front back k h =
    let n = length xs in
    let long = length-append xs ys in
    elim (cases_lt k n) [
      | inl inside ↦
          subst (λ x. P k x (get_or (us ++ vs) k e)) (sym (get_or_append_left xs ys d k inside))
          (subst (P k (get_or xs k d)) (sym (get_or_append_left us vs e k (omega arith))) (front k inside))
      | inr past ↦
          let place : n + (k - n) ≡ k = omega arith in
          subst (λ x. P k x (get_or (us ++ vs) k e)) (sym (get_or-append_right xs ys n k d refl past))
          (subst (P k (get_or ys (k - n) d)) (sym (get_or-append_right us vs n k e same past))
          (subst (λ j. P j (get_or ys (k - n) d) (get_or vs (k - n) e)) place (back (k - n) (omega arith))))
    ]

columns-before : (xs ys : List (List (List ℕ))) → 0 < length xs → columns (xs ++ ys) ≡ columns xs
columns-before [] ys h = absurd (omega arith)
columns-before (x ∷ xs) ys h = refl

-- what is made of the first indices, and of the others
first-made : {A : Type 0} (f : ℕ → List A) (i n : ℕ) → i ≤ n → (tail : List A) × (flat_map f (range_with_len 0 n) ≡ flat_map f (range_with_len 0 i) ++ tail)
first-made f i n h = elim (cases_lt i n) [
  | inl below ↦ (_, each-rest f i n below)
  | inr all ↦
      let e : n ≡ i = omega arith in
      ([], ap (λ m. flat_map f (range_with_len 0 m)) e ∙ sym (append-nil (flat_map f (range_with_len 0 i))))
]

-- the text of some lines, and of others behind them
joined-more : (xs ys : List (List ℕ)) → join_with_byte 10 xs ++ lines_after (begun_after false xs) ys ≡ join_with_byte 10 (xs ++ ys)
joined-more xs ys =
    let back = lines_after (begun_after false xs) ys in
    ap (λ l. l ++ back) (sym (lines_after-joined xs)) ∙ sym (lines_after-append false xs ys) ∙ lines_after-joined (xs ++ ys)

-- ---- the table of all rows

-- a table with some rows more
abbrev pub followed : Sheet → List (List (List ℕ)) → List ℕ → Sheet
followed t cells heights = record t { cells = t.cells ++ cells; heights = t.heights ++ heights }

-- a row is cut as the settings say, wherever it stands
abbrev pub IsCutAs : StreamSettings → List (List (List ℕ)) → ℕ → List (List ℕ) → List (List ℕ) → Type 0
IsCutAs settings ahead_rows k row cells = IsMarkedRow settings.mark (content_width settings ahead_rows) (column_count settings ahead_rows) row cells

module _ {settings : StreamSettings} {config : CompactConfig} {ahead_rows : List (List (List ℕ))} where
  pub followed-streamed : {shown : List (List (List ℕ))} {t : Sheet} (rest cells : List (List (List ℕ))) (heights : List ℕ)
      → IsStreamed settings config ahead_rows shown t → AreChosen (IsCutAs settings ahead_rows) [] [] rest cells → length heights ≡ length rest
      → ((k : ℕ) → k < length rest → slice_index heights k ≡ stream_height settings config ahead_rows (length shown + k) (get_or rest k []))
      → IsStreamed settings config ahead_rows (shown ++ rest) (followed t cells heights)
  followed-streamed {shown} {t} rest cells heights s c high each =
      let H : ℕ → List (List ℕ) → ℕ → Type 0 = λ k row height. height ≡ stream_height settings config ahead_rows k row in
      let many = c.as_many in
      let as_many = s.as_many in
      let as_high = s.as_high in
      let longer = length-append shown rest in
      record {
        as_many = omega (arith, length-append t.cells cells);
        cells = each-joined (IsCutAs settings ahead_rows) shown rest t.cells cells [] [] s.as_many s.cells c.each;
        settings_of = s.settings_of;
        widths = s.widths;
        as_high = omega (arith, length-append t.heights heights);
        heights = each-joined H shown rest t.heights heights [] 0 s.as_high s.heights each;
      }

  -- the first rows stay as they are
  pub part-kept : {shown : List (List (List ℕ))} {t : Sheet} (cells : List (List (List ℕ))) (heights : List ℕ)
      → IsStreamed settings config ahead_rows shown t → (k : ℕ) → k < length shown → row_part (followed t cells heights) k ≡ row_part t k
  unfolding row_part rule
  part-kept {shown} {t} cells heights s k h =
      let n = length t.cells in
      let u = followed t cells heights in
      let m = length u.cells in
      let as_many = s.as_many in
      let as_high = s.as_high in
      let long = length-append t.cells cells in
      let part : ColumnSheet → Option HorizontalLine → List (List ℕ) → ℕ → List (List ℕ) =
      λ sheet line row height. rule_if sheet line ++ row_lines (record { columns = sheet; height = height; text = λ column. get_or row column []; style = style_at t.config k }) in
      let wide : sheet_columns u ≡ sheet_columns t =
      ap (λ count. record { count = count; width = slice_index t.widths; frame = frame t.config }) (columns-before t.cells cells (omega arith)) in
      let line : rule_at t.config m k ≡ rule_at t.config n k =
      ap (λ g. rule_at g m k) s.settings_of ∙ rule-above config m k (omega arith) ∙ sym (rule-above config n k (omega arith))
      ∙ sym (ap (λ g. rule_at g n k) s.settings_of) in
      let row : get_or u.cells k [] ≡ get_or t.cells k [] = get_or_append_left t.cells cells [] k (omega arith) in
      let height : slice_index u.heights k ≡ slice_index t.heights k = get_or_append_left t.heights heights 0 k (omega arith) in
      ap (λ sheet. part sheet (rule_at t.config m k) (get_or u.cells k []) (slice_index u.heights k)) wide
      ∙ ap (λ l. part (sheet_columns t) l (get_or u.cells k []) (slice_index u.heights k)) line
      ∙ ap (λ r. part (sheet_columns t) (rule_at t.config n k) r (slice_index u.heights k)) row
      ∙ ap (λ x. part (sheet_columns t) (rule_at t.config n k) (get_or t.cells k []) x) height

  pub above-kept : {shown : List (List (List ℕ))} {t : Sheet} (cells : List (List (List ℕ))) (heights : List ℕ) (count : ℕ)
      → IsStreamed settings config ahead_rows shown t
      → lines_above (followed t cells heights) count (length shown) ≡ lines_above t count (length shown)
  unfolding lines_above
  above-kept {shown} {t} cells heights count s =
      let top = (frame t.config).margin.top in
      let margin = replicate top.size (fill top.fill (filled_width t.config count t.widths)) in
      ap (λ l. margin ++ l) (flat_map-same (row_part (followed t cells heights)) (row_part t) (length shown) (part-kept cells heights s))

  -- the picture of a table begins with the lines above each of its rows
  picture-begins : {rows : List (List (List ℕ))} {t : Sheet} (k : ℕ) → IsStreamed settings config ahead_rows rows t → 0 < length rows
      → 0 < column_count settings ahead_rows → k ≤ length rows
      → (below : List (List ℕ)) × (picture t ≡ lines_above t (column_count settings ahead_rows) k ++ below)
  unfolding picture filled_picture lines_above
  picture-begins {rows} {t} k s h w l =
      let count = streamed_columns s h in
      let as_many = s.as_many in
      let filled : is_empty t.cells ≡ false =
      ap (λ b. b || (columns t.cells == 0)) (not-zero (length t.cells) (omega arith)) ∙ not-zero (columns t.cells) (omega arith) in
      let whole = filled_width t.config (column_count settings ahead_rows) t.widths in
      let top = (frame t.config).margin.top in
      let bottom = (frame t.config).margin.bottom in
      let margin = replicate top.size (fill top.fill whole) in
      let ends = rule t (length t.cells) ++ replicate bottom.size (fill bottom.fill whole) in
      let made = first-made (row_part t) k (length t.cells) (omega arith) in
      let front = flat_map (row_part t) (range_with_len 0 k) in (
        made.0 ++ ends,
        ap (λ b. if b then [] else filled_picture t (filled_width t.config (columns t.cells) t.widths)) filled
            ∙ ap (λ n. filled_picture t (filled_width t.config n t.widths)) count
            ∙ ap (λ r. margin ++ (r ++ ends)) made.1
            ∙ ap (λ r. margin ++ r) (append_assoc front made.0 ends)
            ∙ sym (append_assoc margin front (made.0 ++ ends)),
      )

  -- the table of the first of some rows goes on to a table of all
  pub goes_on : (shown rest : List (List (List ℕ))) (t : Sheet) → IsStreamed settings config ahead_rows shown t → AreTexts rest
      → 0 < column_count settings ahead_rows → 0 < length (shown ++ rest) → GoesOn settings config ahead_rows shown rest t
  goes_on shown rest t s u w some =
      let count = column_count settings ahead_rows in
      let n = length shown in
      let longer = length-append shown rest in
      let cut = chosen (IsCutAs settings ahead_rows) [] [] rest (λ k h. marked_row_exists settings.mark (content_width settings ahead_rows) count (get_or rest k []) (u k [] h)) in
      let height : ℕ → ℕ = λ k. stream_height settings config ahead_rows (n + k) (get_or rest k []) in
      let heights = map height (range_with_len 0 (length rest)) in
      let sheet = followed t cut.0 heights in
      let streamed = followed-streamed rest cut.0 heights s cut.1 (length-map-range_with_len height 0 (length rest)) (listed height (length rest)) in
      let begins = picture-begins n streamed some w (omega arith) in
      let above = lines_above t count n in
      record {
        sheet = sheet;
        streamed = streamed;
        more = lines_after (begun_after false above) begins.0;
        text =
            joined-more above begins.0
            ∙ ap (λ l. join_with_byte 10 (l ++ begins.0)) (sym (above-kept cut.0 heights count s))
            ∙ ap (join_with_byte 10) (sym begins.1);
      }
