-- Texts of letters, whose tables are the same if they are streamed.
use Rattle.tabled.proofs.Names.{All, All-cons, All-head, All-nil, All-tail, AllPass, AreTexts, Bool, Buffered, Cells, Halts, IsBestOf}
use Rattle.tabled.proofs.Names.{IsBestPlanned, IsCut, IsInside, IsPlanned, IsPlannedOf, IsRendered, IsRenderedOf, List, Plan, Result, Sent}
use Rattle.tabled.proofs.Names.{Streamed, TableError, [], arith, cases_Bool, cell_at, tab_separated, cond, false, holds_estimated, inner_width}
use Rattle.tabled.proofs.Names.{length, lengthened, lines_of, list_all-from_AllPass, measured, most_cells, new_config, new_sheet, refl}
use Rattle.tabled.proofs.Names.{row_lines, picture_lines, subst, sym, take, text_rows, true, without_last_feed, ℕ, ⊎_elim, ◌-◌, ◌==◌, ◌∷◌}
use Rattle.tabled.proofs.Names.{◌≡◌, ◌≤◌}
use Rattle.std.proofs.Common.{◌||◌, replicate}
use Rattle.std.specs.List.{list_all, onto_first, slice_index, slice_split}
use Rattle.std.proofs.lemmas.List.Elements.{All-append, All-map, All-replicate, All-take, All-weaker}
use Rattle.std.proofs.lemmas.List.Sums.{AllPass-from_list_all}
use Rattle.tabled_size.specs.Estimates.{needed_width}
use Rattle.tabled_text.proofs.CutWhole.{IsCut-counted}
use Rattle.tabled_text.proofs.LetterBytes.{letters-exact}
use Rattle.tabled_text.specs.Letters.{is_letter_byte, is_letter_or_break}
use Rattle.tabled.specs.Planned.{IsStreamedFrom}
use Rattle.tabled.proofs.Outputs.{text_rectangular}
use Rattle.tabled.proofs.RenderedTables.{best_new, prints_as, rendered_new, whole_lines}

-- a part begins with one more element that it may have
onto : {X : Type 0} (R : X → Type 0) (x : X) (parts : List (List X)) → R x → All (All R) parts → All (All R) (onto_first x parts)
onto R x [] r h = All-cons (All R) (x ∷ []) [] (All-cons R x [] r (All-nil R)) (All-nil (All R))
onto R x (part ∷ parts) r h =
    All-cons (All R) (x ∷ part) parts (All-cons R x part r (All-head (All R) part parts h)) (All-tail (All R) part parts h)

-- what holds of each element that parts nothing holds in each part
parted : {X : Type 0} (R : X → Type 0) (p : X → Bool) (xs : List X) → All (λ x. p x ≡ false → R x) xs → All (All R) (slice_split p xs)
parted R p [] h = All-cons (All R) [] [] (All-nil R) (All-nil (All R))
parted {X} R p (x ∷ xs) h =
    let S : X → Type 0 = λ y. p y ≡ false → R y in
    let more = parted R p xs (All-tail S x xs h) in
    let Q : Bool → Type 0 = λ b. All (All R) (cond b ([] ∷ slice_split p xs) (onto_first x (slice_split p xs))) in
    ⊎_elim (λ y. subst Q (sym y) (All-cons (All R) [] (slice_split p xs) (All-nil R) more))
    (λ no. subst Q (sym no) (onto R x (slice_split p xs) (All-head S x xs h no) more)) (cases_Bool (p x))

-- a byte of a line
abbrev in_line : ℕ → Bool
in_line b = (b == 9) || is_letter_byte b

lines_plain : (text : List ℕ) → AllPass is_letter_or_break text → All (AllPass in_line) (lines_of text)
lines_plain text h =
    parted (λ b. in_line b ≡ true) (λ b. b == 10) text
    (All-weaker (λ b. is_letter_or_break b ≡ true) (λ b. (b == 10) ≡ false → in_line b ≡ true) (λ b p no. grind arith) text h)

inner_plain : (text : List ℕ) → AllPass is_letter_or_break text → AllPass is_letter_or_break (without_last_feed text)
inner_plain text h =
    let Q : Bool → Type 0 = λ b. AllPass is_letter_or_break (cond b (take (length text - 1) text) text) in
    ⊎_elim (λ y. subst Q (sym y) (All-take (λ b. is_letter_or_break b ≡ true) (length text - 1) text h)) (λ no. subst Q (sym no) h)
    (cases_Bool (slice_index text (length text - 1) == 10))

rows_plain : (text : List ℕ) → AllPass is_letter_or_break text → All (AllPass in_line) (row_lines text)
rows_plain text h =
    let Q : Bool → Type 0 = λ b. All (AllPass in_line) (cond b [] (lines_of (without_last_feed text))) in
    ⊎_elim (λ y. subst Q (sym y) (All-nil (AllPass in_line))) (λ no. subst Q (sym no) (lines_plain (without_last_feed text) (inner_plain text h)))
    (cases_Bool (length text == 0))

row_plain : (n : ℕ) (line : List ℕ) → AllPass in_line line → All (AllPass is_letter_byte) (lengthened n (tab_separated line))
row_plain n line h =
    All-append (AllPass is_letter_byte) (tab_separated line) (replicate (n - length (tab_separated line)) [])
    (parted (λ b. is_letter_byte b ≡ true) (λ b. b == 9) line
    (All-weaker (λ b. in_line b ≡ true) (λ b. (b == 9) ≡ false → is_letter_byte b ≡ true) (λ b p no. grind arith) line h))
    (All-replicate (AllPass is_letter_byte) (n - length (tab_separated line)) [] (All-nil (λ b. is_letter_byte b ≡ true)))

cells_plain : (text : List ℕ) → AllPass is_letter_or_break text → All (All (AllPass is_letter_byte)) (text_rows text)
unfolding text_rows
cells_plain text h =
    let n = most_cells (row_lines text) in
    All-map (All (AllPass is_letter_byte)) (λ line. lengthened n (tab_separated line)) (row_lines text)
    (All-weaker (AllPass in_line) (λ line. All (AllPass is_letter_byte) (lengthened n (tab_separated line))) (row_plain n) (row_lines text) (rows_plain text h))

-- ---- the table of such a text

module _ (text : List ℕ) (plain : list_all is_letter_or_break text ≡ true) (texts : AreTexts (text_rows text)) where
  abbrev cells : Cells
  cells = text_rows text

  -- no cell is cut
  cell_kept : (row column : ℕ) → IsInside cells row column → IsCut (inner_width (new_sheet cells) row column) (cell_at cells row column) (cell_at cells row column)
  cell_kept row column inside =
      let cell = cell_at cells row column in
      let long = text_rectangular text row [] inside.row_in in
      let there = inside.column_in in
      let letters : list_all is_letter_byte cell ≡ true =
      list_all-from_AllPass is_letter_byte cell (cells_plain text (AllPass-from_list_all is_letter_or_break text plain) row [] inside.row_in column [] (omega arith)) in
      let exact = letters-exact cell (texts row [] inside.row_in column [] (omega arith)) letters in
      let wide = exact.counted in
      let held : needed_width cells new_config row column ≤ slice_index (new_sheet cells).widths column =
      holds_estimated cells new_config row column inside.row_in inside.column_in in
      IsCut-counted (inner_width (new_sheet cells) row column) cell exact.utf8 (omega arith)

  streamed : IsStreamedFrom (new_sheet cells) (new_sheet cells)
  streamed = record {
    config = refl;
    widths = refl;
    cells = record { rows = refl; row_lengths = λ row. refl; cells = cell_kept };
    heights = refl;
  }

  best : IsBestPlanned Streamed cells (new_sheet cells)
  best = best_new Streamed cells (new_sheet cells) (record {
    edges = whole_lines cells new_config (text_rectangular text) texts;
    lines = picture_lines (new_sheet cells);
    total = tt;
    least = tt;
    fewest = tt;
    longest = tt;
    alike = λ exact. refl;
  })

  -- a stream prints the whole table
  streamed_whole : {T : Type 0} (old : Sent) (r : Result T TableError) (new : Sent) → IsRenderedOf Buffered (new_sheet cells) old r new
      → IsRendered Streamed cells old r new
  streamed_whole old r new h =
      prints_as (IsPlannedOf Buffered (new_sheet cells)) (IsBestOf Buffered (new_sheet cells)) (IsPlanned Streamed cells) (IsBestPlanned Streamed cells)
      (λ e. ⊥) (Halts Streamed) (new_sheet cells) old r new
      (λ t p. subst (IsPlanned Streamed cells) (sym p) streamed) (λ t p b. subst (IsBestPlanned Streamed cells) (sym p) best) (λ e never. absurd never) h

-- what is measured is printed as planned, if only plain texts are streamed
pub rendered_measured : {T : Type 0} (text : List ℕ) → AreTexts (text_rows text) → (plan : Plan)
    → (plan ≡ Streamed → list_all is_letter_or_break text ≡ true) → (old : Sent) (r : Result T TableError) (new : Sent)
    → IsRenderedOf (measured plan) (new_sheet (text_rows text)) old r new → IsRendered plan (text_rows text) old r new
rendered_measured text texts Streamed plain old r new h = streamed_whole text (plain refl) texts old r new h
rendered_measured text texts plan plain old r new h = rendered_new plan (text_rows text) old r new h
