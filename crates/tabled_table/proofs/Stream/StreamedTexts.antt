-- The cells of a streamed table are texts in equally long rows, and its columns hold them.
use Rattle.tabled_table.proofs.Names.{AreTexts, CompactConfig, Holds, IsMarkedRow, IsRectangular, IsStreamed, IsUtf8, List, Sheet}
use Rattle.tabled_table.proofs.Names.{Option, SpannedConfig, StreamSettings, [], ap, arith, cases_lt, cell_at, column_count, columns, content_width}
use Rattle.tabled_table.proofs.Names.{fits-none, get_or, get_or_past, inl, inr, length, refl, slice_index, spanned_of_compact, stream_width}
use Rattle.tabled_table.proofs.Names.{style_at, subst, sym, text_columns, ℕ, ◌+◌, ◌-◌, ◌<◌, ◌∙◌, ◌≡◌}
use Rattle.std.specs.List.{All}
use Rattle.std.proofs.lemmas.List.Elements.{All-from_get_or}
use Rattle.tabled_text.specs.Fitting.{FitsIn}
use Rattle.tabled_base.proofs.Lengthening.{rectangular-from_length}
use Rattle.tabled_size.specs.Estimates.{needed_width}
use Rattle.tabled_table.proofs.Stream.Drawn.{filled-at}
use Rattle.tabled_table.proofs.Stream.Marked.{fits-cut_cell}
use Rattle.tabled_table.proofs.Stream.Measures.{length-cut}
use Rattle.tabled_table.proofs.Stream.Widths.{listed}

-- a cell of a cut row takes no more columns than its column leaves to texts
cell-fits : {mark : Option ℕ} (content : ℕ → ℕ) (count : ℕ) (row cells : List (List ℕ)) (column : ℕ) → IsMarkedRow mark content count row cells
    → FitsIn (content column) (get_or cells column [])
cell-fits {mark} content count row cells column c =
    let P : List ℕ → Type 0 = FitsIn (content column) in
    subst P (sym (ap (λ l. get_or l column []) c.whole ∙ filled-at c.cut (count - length c.cut) column))
    (elim (cases_lt column (length c.cut)) [
      | inl inside ↦ fits-cut_cell mark (content column) (get_or row column []) (get_or c.cut column []) (c.each column inside)
      | inr past ↦ subst P (sym (get_or_past c.cut column [] past)) (fits-none (content column))
    ])

padded : SpannedConfig → ℕ → ℕ → ℕ
padded config row column = let padding = (style_at config row column).padding in padding.left.size + padding.right.size

padded-alike : (config : CompactConfig) (row column : ℕ) → padded (spanned_of_compact config) row column ≡ config.padding.left.size + config.padding.right.size
unfolding padded style_at
padded-alike config row column = refl

needed-is : (cells : List (List (List ℕ))) (config : SpannedConfig) (row column : ℕ)
    → needed_width cells config row column ≡ text_columns (cell_at cells row column) + padded config row column
unfolding padded
needed-is cells config row column = refl

module _ {settings : StreamSettings} {config : CompactConfig} {ahead_rows rows : List (List (List ℕ))} {t : Sheet} where
  row-long : IsStreamed settings config ahead_rows rows t → (row : ℕ) → row < length t.cells → length (get_or t.cells row []) ≡ column_count settings ahead_rows
  row-long s row h =
      length-cut (content_width settings ahead_rows) (column_count settings ahead_rows) (get_or rows row []) (get_or t.cells row [])
      (s.cells row (let m = s.as_many in omega arith))

  pub streamed_rectangular : IsStreamed settings config ahead_rows rows t → IsRectangular t.cells
  streamed_rectangular s =
      rectangular-from_length (column_count settings ahead_rows) t.cells
      (All-from_get_or (λ row. length row ≡ column_count settings ahead_rows) t.cells [] (row-long s))

  -- it has its columns, where it has a row
  pub streamed_columns : IsStreamed settings config ahead_rows rows t → 0 < length rows → columns t.cells ≡ column_count settings ahead_rows
  streamed_columns s h =
      let some : 0 < length t.cells = let m = s.as_many in omega arith in
      sym (streamed_rectangular s 0 [] some) ∙ row-long s 0 some

  row-fits : IsStreamed settings config ahead_rows rows t → (row column : ℕ) → row < length t.cells
      → FitsIn (content_width settings ahead_rows column) (cell_at t.cells row column)
  row-fits s row column h =
      cell-fits (content_width settings ahead_rows) (column_count settings ahead_rows) (get_or rows row []) (get_or t.cells row []) column
      (s.cells row (let m = s.as_many in omega arith))

  pub streamed_texts : IsStreamed settings config ahead_rows rows t → AreTexts t.cells
  streamed_texts s =
      All-from_get_or (All IsUtf8) t.cells []
      (λ row h. All-from_get_or IsUtf8 (get_or t.cells row []) [] (λ column l. (row-fits s row column h).utf8))

  pub streamed_holds : IsStreamed settings config ahead_rows rows t → Holds t
  streamed_holds s row column h l =
      let fits = (row-fits s row column h).columns in
      let count = streamed_columns s (let m = s.as_many in omega arith) in
      let padding : padded t.config row column ≡ config.padding.left.size + config.padding.right.size =
      ap (λ g. padded g row column) s.settings_of ∙ padded-alike config row column in
      let width : slice_index t.widths column ≡ stream_width settings config ahead_rows column =
      ap (λ ws. slice_index ws column) s.widths ∙ listed (stream_width settings config ahead_rows) (column_count settings ahead_rows) column (omega arith) in
      let needed = needed-is t.cells t.config row column in
      omega arith
