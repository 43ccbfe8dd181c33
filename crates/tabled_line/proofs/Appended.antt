-- Lines of a row that are made of texts and of the parts of the blank row between them.
use Rattle.tabled_line.proofs.Names.{ColumnSheet, IsCharBoundary, IsCharBoundary-after_ascii, IsCharBoundary-before_ascii, IsUtf8}
use Rattle.tabled_line.proofs.Names.{IsUtf8-append, IsUtf8-drop, List, PlacedText, RowSheet, Slot, [], ap, append-nil, append_assoc, arith}
use Rattle.tabled_line.proofs.Names.{block_line, cases_lt, cell_piece, drop, fill, flat_map, get_or, get_or-append-add}
use Rattle.tabled_line.proofs.Names.{get_or-map-range_with_len, has_bar, inl, inr, left_edge, length, length-append, length-drop}
use Rattle.tabled_line.proofs.Names.{length-map-range_with_len, lit<, offset_at, piece, range_with_len, refl, right_edge, row_line}
use Rattle.tabled_line.proofs.Names.{rule_line, rule_piece, slot_at, subst, suc, sym, take, take-append-drop, take-append_seam, take-take}
use Rattle.tabled_line.proofs.Names.{take_all, ℕ, ◌++◌, ◌+◌, ◌-◌, ◌<◌, ◌∙◌, ◌∷◌, ◌≡◌, ◌≤◌}
use Rattle.std.proofs.Math.Seq.{drop-append-add, drop-drop, take-add}
use Rattle.std.proofs.lemmas.List.{length-take}
use Rattle.std.proofs.lemmas.Slice.{between_is}
use Rattle.std.proofs.lemmas.Str.{IsUtf8-take}
use Rattle.tabled_line.specs.BlankRow.{blank_line, blank_row}
use Rattle.tabled_line.specs.PlacedText.{IsSpacedLine}
use Rattle.tabled_line.specs.Slots.{AreSlots, IsFilled}
use Rattle.tabled_line.proofs.Bars.{later-bar}
use Rattle.tabled_line.proofs.Each.{each-more}
use Rattle.tabled_line.proofs.Fills.{fill-add, fill-drop, fill-first_bytes, fill-length}
use Rattle.tabled_line.proofs.Placing.{no-text}

-- the vertical line before a column
abbrev bar_at : ColumnSheet → ℕ → List ℕ
bar_at cs column = piece (has_bar cs.frame column) cs.frame.inner.main

-- the left edge and the cells before a column
abbrev cells_before : RowSheet → ℕ → ℕ → List ℕ
cells_before rs index column = left_edge rs.columns.frame rs.columns.frame.left.main ++ flat_map (cell_piece rs index) (range_with_len 0 column)

-- the blank cells from a column on, and the right edge
abbrev blank_from : ColumnSheet → ℕ → List ℕ
blank_from cs column =
    flat_map (rule_piece cs (blank_line cs.frame)) (range_with_len column (cs.count - column)) ++ right_edge cs.frame cs.frame.right.main

-- a line up to a column, and `passed` bytes of the blank row: what is pending completes the line, and follows in the blank row
pub record IsAppended (rs : RowSheet) (index : ℕ) (blank line : List ℕ) (passed column : ℕ) : Type 0 where
  pub pending : List ℕ
  pub line_is : line ++ pending ≡ 10 ∷ cells_before rs index column
  pub blank_is : drop passed blank ≡ pending ++ blank_from rs.columns column
  pub next : passed + (length pending + length (bar_at rs.columns column)) ≡ offset_at rs.columns column
  pub within : passed ≤ length blank
  pub line_utf8 : IsUtf8 line
  pub rest_utf8 : IsUtf8 (drop passed blank)

pub none-appended : (rs : RowSheet) (index : ℕ) (blank line : List ℕ) → line ≡ [] → blank ≡ 10 ∷ blank_row rs.columns → IsUtf8 [] → IsUtf8 blank
    → IsAppended rs index blank line 0 0
unfolding rule_line
none-appended rs index blank line none is nil utf8 =
    let cs = rs.columns in
    let edge = left_edge cs.frame cs.frame.left.main in
    let e : cs.count ≡ cs.count - 0 = omega arith in
    let no_bar : length (bar_at cs 0) ≡ 0 = refl in
    subst (λ u. IsAppended rs index blank u 0 0) (sym none)
    (record {
      pending = 10 ∷ edge;
      line_is = ap (λ u. 10 ∷ u) (sym (append-nil edge));
      blank_is = is ∙ ap (λ n. (10 ∷ edge) ++ (flat_map (rule_piece cs (blank_line cs.frame)) (range_with_len 0 n) ++ right_edge cs.frame cs.frame.right.main)) e;
      next = omega (arith, no_bar);
      within = omega arith;
      line_utf8 = nil;
      rest_utf8 = utf8;
    })

-- the next cell is blank
blank-next : (cs : ColumnSheet) (column : ℕ) → column < cs.count
    → blank_from cs column ≡ bar_at cs column ++ (fill 32 (cs.width column) ++ blank_from cs (column + 1))
unfolding rule_piece
blank-next cs column within =
    let e : cs.count - column ≡ suc (cs.count - (column + 1)) = omega arith in
    ap (λ n. flat_map (rule_piece cs (blank_line cs.frame)) (range_with_len column n) ++ right_edge cs.frame cs.frame.right.main) e
    ∙ regroup (bar_at cs column) (fill 32 (cs.width column)) _ _
  where
    regroup : (a b c d : List ℕ) → ((a ++ b) ++ c) ++ d ≡ a ++ (b ++ (c ++ d))
    regroup a b c d = simp append_assoc

-- what is pending before a column, and the rest of the blank row from its cell on
abbrev front : {rs : RowSheet} {index : ℕ} {blank line : List ℕ} {passed column : ℕ} → IsAppended rs index blank line passed column → List ℕ
front {rs} {column = column} a = a.pending ++ bar_at rs.columns column

rest-is : {rs : RowSheet} {index : ℕ} {blank line : List ℕ} {passed column : ℕ} (a : IsAppended rs index blank line passed column)
    → column < rs.columns.count
    → drop passed blank ≡ front a ++ (fill 32 (rs.columns.width column) ++ blank_from rs.columns (column + 1))
rest-is {rs} {column = column} a within =
    a.blank_is ∙ ap (λ u. a.pending ++ u) (blank-next rs.columns column within)
    ∙ sym (append_assoc a.pending (bar_at rs.columns column) _)

-- the cell before a column completes the cells before the next one
cells-more : (rs : RowSheet) (index column : ℕ) (line pending text : List ℕ) → line ++ pending ≡ 10 ∷ cells_before rs index column
    → block_line rs index column ≡ text
    → line ++ (pending ++ (bar_at rs.columns column ++ text)) ≡ 10 ∷ cells_before rs index (column + 1)
unfolding cell_piece
cells-more rs index column line pending text whole is =
    let cs = rs.columns in
    let edge = left_edge cs.frame cs.frame.left.main in
    let cells = flat_map (cell_piece rs index) (range_with_len 0 column) in
    sym (append_assoc line pending (bar_at cs column ++ text)) ∙ ap (λ u. u ++ (bar_at cs column ++ text)) whole
    ∙ ap (λ u. 10 ∷ ((edge ++ cells) ++ (bar_at cs column ++ u))) (sym is)
    ∙ ap (λ u. 10 ∷ u) (append_assoc edge cells (cell_piece rs index column) ∙ ap (λ u. edge ++ u) (sym (each-more (cell_piece rs index) column)))

-- where the cell of the next column begins
offset-more : (cs : ColumnSheet) (column : ℕ)
    → offset_at cs (column + 1) ≡ offset_at cs column + cs.width column + length (bar_at cs (column + 1))
offset-more cs column =
    let further : column + 1 ≡ suc column = omega arith in
    let later : has_bar cs.frame (column + 1) ≡ cs.frame.inner.there =
    subst (λ k. has_bar cs.frame k ≡ cs.frame.inner.there) (sym further) (later-bar column cs.frame.inner.there) in
    omega (arith, ap (offset_at cs) further, ap (λ b. length (piece b cs.frame.inner.main)) later)

-- ---- the slot of a column

pub record IsReached (rs : RowSheet) (blank : List ℕ) (passed column : ℕ) (slot : Slot) : Type 0 where
  pub within : column < rs.columns.count
  pub width_is : slot.width ≡ rs.columns.width column
  pub place_is : slot.place ≡ offset_at rs.columns column
  pub after : passed ≤ slot.place
  pub reach : slot.place + slot.width ≤ length blank

-- the blank row reaches to the end of a cell
slot-long : {rs : RowSheet} {index : ℕ} {blank line : List ℕ} {passed column : ℕ} → IsAppended rs index blank line passed column
    → column < rs.columns.count → offset_at rs.columns column + rs.columns.width column ≤ length blank
slot-long {rs} {column = column} a within =
    omega (arith, a.next, a.within, ap length (rest-is a within), length-append {A = ℕ}, length-drop {A = ℕ}, fill-length 32 (rs.columns.width column) (lit< tt))

pub slot-reached : {rs : RowSheet} {index : ℕ} {blank line : List ℕ} {passed column : ℕ} (slots : List Slot)
    → IsAppended rs index blank line passed column → AreSlots rs.columns slots → column < length slots
    → IsReached rs blank passed column (get_or slots column (record { place = 0; width = 0 }))
slot-reached {rs} {index} {blank} {line} {passed} {column} slots a are inside =
    let cs = rs.columns in
    let within : column < cs.count = omega (arith, inside, ap length are ∙ length-map-range_with_len (slot_at cs) 0 cs.count) in
    let slot = ap (λ s. get_or s column (record { place = 0; width = 0 })) are
    ∙ get_or-map-range_with_len (slot_at cs) 0 cs.count column column (record { place = 0; width = 0 }) within (omega arith) in
    let place = ap (λ s. s.place) slot in
    let width = ap (λ s. s.width) slot in
    record {
      within = within;
      width_is = width;
      place_is = place;
      after = omega (arith, place, a.next);
      reach = omega (arith, place, width, slot-long a within);
    }

-- all slots were passed
pub slots-passed : (cs : ColumnSheet) (slots : List Slot) (column : ℕ) → AreSlots cs slots → column ≡ length slots → column ≡ cs.count
slots-passed cs slots column are end = end ∙ ap length are ∙ length-map-range_with_len (slot_at cs) 0 cs.count

-- ---- a cell without a text

pub blank-appended : {rs : RowSheet} {index : ℕ} {blank line : List ℕ} {passed column : ℕ} {placed : PlacedText}
    → IsAppended rs index blank line passed column → column < rs.columns.count
    → IsSpacedLine (block_line rs index column) (rs.columns.width column) placed → length placed.text.now ≡ 0 → placed.columns ≡ 0
    → IsAppended rs index blank line passed (column + 1)
blank-appended {rs} {index} {blank} {line} {passed} {column} {placed} a within known none no_columns =
    let cs = rs.columns in
    let n = cs.width column in
    let bar = bar_at cs column in
    let spaces : block_line rs index column ≡ fill 32 n =
    known.line_is ∙ ap (λ t. fill 32 placed.before ++ (t ++ fill 32 placed.behind)) (sym (no-text placed.text.now none))
    ∙ sym (fill-add 32 placed.before placed.behind n (omega (arith, no_columns, known.whole))) in
    record {
      pending = a.pending ++ (bar ++ fill 32 n);
      line_is = cells-more rs index column line a.pending (fill 32 n) a.line_is spaces;
      blank_is = a.blank_is ∙ ap (λ u. a.pending ++ u) (blank-next cs column within) ∙ regroup a.pending bar (fill 32 n) (blank_from cs (column + 1));
      next = omega (arith, a.next, offset-more cs column, length-append {A = ℕ}, fill-length 32 n (lit< tt));
      within = a.within;
      line_utf8 = a.line_utf8;
      rest_utf8 = a.rest_utf8;
    }
  where
    regroup : (a b c d : List ℕ) → a ++ (b ++ (c ++ d)) ≡ (a ++ (b ++ c)) ++ d
    regroup a b c d = simp append_assoc

-- ---- a text

-- characters begin and end at each of the spaces that stand behind a front
spaces-boundary : (bytes front back : List ℕ) (w j : ℕ) → bytes ≡ front ++ (fill 32 w ++ back) → IsUtf8 bytes → 0 < w → j ≤ w
    → IsCharBoundary bytes (length front + j)
spaces-boundary bytes front back w j whole utf8 some within =
    let long : length bytes ≡ length front + (w + length back) =
    omega (arith, ap length whole, length-append {A = ℕ}, fill-length 32 w (lit< tt)) in
    let space : (i : ℕ) → i < w → get_or bytes (length front + i) 0 < 128 = λ i l.
    subst (λ b. get_or b (length front + i) 0 < 128) (sym whole)
    (subst (λ n. n < 128) (sym (get_or-append-add front (fill 32 w ++ back) i 0)) (fill-first_bytes 32 w i back (lit< tt) l)) in
    elim (cases_lt j w) [
      | inl before ↦ IsCharBoundary-before_ascii bytes (length front + j) (omega (arith, long, before)) (space j before)
      | inr last ↦
          let next : length front + (w - 1) + 1 ≡ length front + j = omega (arith, last, within, some) in
          subst (IsCharBoundary bytes) next
          (IsCharBoundary-after_ascii bytes (length front + (w - 1)) utf8 (omega (arith, long, some)) (space (w - 1) (omega (arith, some))))
    ]

pub text-appended : {rs : RowSheet} {index : ℕ} {blank line : List ℕ} {passed column : ℕ} {placed : PlacedText} (start : ℕ) (next : List ℕ)
    → IsAppended rs index blank line passed column → column < rs.columns.count
    → IsSpacedLine (block_line rs index column) (rs.columns.width column) placed → 0 < rs.columns.width column
    → start ≡ offset_at rs.columns column + placed.before → next ≡ (line ++ take (start - passed) (drop passed blank)) ++ placed.text.now
    → IsUtf8 placed.text.now → IsAppended rs index blank next (start + placed.columns) (column + 1)
text-appended {rs} {index} {blank} {line} {passed} {column} {placed} start next a within known some at appended text =
    let cs = rs.columns in
    let bar = bar_at cs column in
    let back = blank_from cs (column + 1) in
    let behind = fill 32 placed.behind in
    let part = front a ++ fill 32 placed.before in
    let rest = rest-is a within in
    let count : length part ≡ start - passed = omega (arith, at, a.next, length-append {A = ℕ}, fill-length 32 placed.before (lit< tt)) in
    let parts : drop passed blank ≡ part ++ (fill 32 (placed.columns + placed.behind) ++ back) =
    rest ∙ ap (λ u. front a ++ (u ++ back)) (fill-add 32 placed.before (placed.columns + placed.behind) (cs.width column) known.whole)
    ∙ regroup (front a) (fill 32 placed.before) (fill 32 (placed.columns + placed.behind)) back in
    let first : take (start - passed) (drop passed blank) ≡ part =
    ap (λ n. take n (drop passed blank)) (sym count) ∙ ap (take (length part)) parts ∙ take-append_seam part _ in
    let past : passed + (length part + placed.columns) ≡ start + placed.columns = omega (arith, count, at, a.next) in
    let last : drop (length part + placed.columns) (drop passed blank) ≡ drop (start + placed.columns) blank =
    drop-drop (length part + placed.columns) passed blank ∙ ap (λ n. drop n blank) past in
    let begins : length (front a) + placed.before ≡ length part = omega (arith, length-append (front a) (fill 32 placed.before), fill-length 32 placed.before (lit< tt)) in
    let ends : length (front a) + (placed.before + placed.columns) ≡ length part + placed.columns = omega (arith, begins) in
    let boundary : (j : ℕ) → j ≤ cs.width column → IsCharBoundary (drop passed blank) (length (front a) + j) = λ j le.
    spaces-boundary (drop passed blank) (front a) back (cs.width column) j rest a.rest_utf8 some le in
    record {
      pending = behind;
      line_is = ap (λ u. u ++ behind) (appended ∙ ap (λ u. (line ++ u) ++ placed.text.now) first)
          ∙ gather line a.pending bar (fill 32 placed.before) placed.text.now behind
          ∙ cells-more rs index column line a.pending _ a.line_is known.line_is;
      blank_is = sym last ∙ ap (drop (length part + placed.columns)) parts
          ∙ drop-append-add part (fill 32 (placed.columns + placed.behind) ++ back) placed.columns ∙ fill-drop 32 placed.columns placed.behind back (lit< tt);
      next = omega (arith, at, offset-more cs column, known.whole, fill-length 32 placed.behind (lit< tt));
      within = omega (arith, at, known.whole, a.next, slot-long a within);
      line_utf8 = subst IsUtf8 (sym appended)
          (IsUtf8-append (line ++ take (start - passed) (drop passed blank)) placed.text.now
          (IsUtf8-append line _ a.line_utf8
          (IsUtf8-take (drop passed blank) (start - passed) a.rest_utf8
          (subst (IsCharBoundary (drop passed blank)) (begins ∙ count) (boundary placed.before (omega (arith, known.whole)))))) text);
      rest_utf8 = subst IsUtf8 last
          (IsUtf8-drop (drop passed blank) (length part + placed.columns) a.rest_utf8
          (subst (IsCharBoundary (drop passed blank)) ends (boundary (placed.before + placed.columns) (omega (arith, known.whole)))));
    }
  where
    regroup : (a b c d : List ℕ) → a ++ ((b ++ c) ++ d) ≡ (a ++ b) ++ (c ++ d)
    regroup a b c d = simp append_assoc

    gather : (line a b c d e : List ℕ) → ((line ++ ((a ++ b) ++ c)) ++ d) ++ e ≡ line ++ (a ++ (b ++ (c ++ (d ++ e))))
    gather line a b c d e = simp append_assoc

-- ---- the rest of the blank row

pub rest-dropped : (blank bytes : List ℕ) (passed : ℕ) → bytes ≡ blank → take (length bytes - passed) (drop passed bytes) ≡ drop passed blank
rest-dropped blank bytes passed same =
    take_all (length bytes - passed) (drop passed bytes) (omega (arith, length-drop passed bytes)) ∙ ap (drop passed) same

-- a row with more behind it is as long as the row, and has the same parts
pub padded-long : (row padded : List ℕ) → take (length row) padded ≡ row → length row ≤ length padded
padded-long row padded same = omega (arith, ap length same, length-take (length row) padded)

pub padded-part : (row padded : List ℕ) (passed count : ℕ) → take (length row) padded ≡ row → passed + count ≤ length row
    → take count (drop passed padded) ≡ take count (drop passed row)
padded-part row padded passed count same within =
    sym (take-take count (length row - passed) (drop passed padded) (omega (arith, within)))
    ∙ ap (take count) (between_is padded passed (length row) ∙ ap (drop passed) same)

appended-all : {rs : RowSheet} {index : ℕ} {blank line : List ℕ} {passed column : ℕ} → IsAppended rs index blank line passed column
    → column ≡ rs.columns.count → line ++ drop passed blank ≡ 10 ∷ row_line rs index
unfolding row_line
appended-all {rs} {index} {blank} {line} {passed} {column} a all =
    let f = rs.columns.frame in
    let cells = flat_map (cell_piece rs index) (range_with_len 0 column) in
    let right = right_edge f f.right.main in
    let none : rs.columns.count - column ≡ 0 = omega arith in
    ap (λ u. line ++ u) (a.blank_is ∙ ap (λ n. a.pending ++ (flat_map (rule_piece rs.columns (blank_line f)) (range_with_len column n) ++ right)) none)
    ∙ sym (append_assoc line a.pending right) ∙ ap (λ u. u ++ right) a.line_is
    ∙ ap (λ u. 10 ∷ u) (append_assoc (left_edge f f.left.main) cells right)
    ∙ ap (λ n. 10 ∷ (left_edge f f.left.main ++ (flat_map (cell_piece rs index) (range_with_len 0 n) ++ right))) all

pub line-filled : {rs : RowSheet} {index : ℕ} {blank line : List ℕ} {passed column : ℕ} (new rest : List ℕ) (end : ℕ)
    → IsAppended rs index blank line passed column → column ≡ rs.columns.count → rest ≡ drop passed blank
    → take (end + length rest) new ≡ line ++ take (length rest) rest → end + length rest ≤ length new → IsFilled rs index new (end + length rest)
line-filled {blank = blank} {line = line} {passed = passed} new rest end a all same copied within =
    let filled : take (end + length rest) new ≡ line ++ drop passed blank =
    copied ∙ ap (λ u. line ++ u) (take_all (length rest) rest (omega arith) ∙ same) in
    record {
      within = within;
      line = filled ∙ appended-all a all;
      utf8 = subst IsUtf8 (sym filled) (IsUtf8-append line _ a.line_utf8 a.rest_utf8);
    }

-- ---- texts over a copy of the blank row

-- a line is complete up to `end`, and the blank row follows, from there on
pub record IsOverlaid (rs : RowSheet) (index : ℕ) (blank line : List ℕ) (column : ℕ) : Type 0 where
  pub end : ℕ
  pub appended : IsAppended rs index blank (take end line) end column
  pub kept : take (length blank - end) (drop end line) ≡ drop end blank

-- further on, the blank row follows too
kept-more : (blank line : List ℕ) (end next : ℕ) → end ≤ next → take (length blank - end) (drop end line) ≡ drop end blank
    → take (length blank - next) (drop next line) ≡ drop next blank
kept-more blank line end next le kept =
    let more = next - end in
    let sum : end + more ≡ next = omega arith in
    let left : length blank - next ≡ length blank - end - more = omega arith in
    ap (λ n. take n (drop next line)) left ∙ ap (λ n. take (length blank - end - more) (drop n line)) (sym sum)
    ∙ ap (take (length blank - end - more)) (sym (drop-drop more end line)) ∙ between_is (drop end line) more (length blank - end)
    ∙ ap (drop more) kept ∙ drop-drop more end blank ∙ ap (λ n. drop n blank) sum

-- up to a place in the blank row, too
kept-take : (blank line : List ℕ) (end start : ℕ) → end ≤ start → start ≤ length blank → take (length blank - end) (drop end line) ≡ drop end blank
    → take start line ≡ take end line ++ take (start - end) (drop end blank)
kept-take blank line end start le within kept =
    let count = start - end in
    let sum : end + count ≡ start = omega arith in
    ap (λ n. take n line) (sym sum) ∙ take-add end count line
    ∙ ap (λ u. take end line ++ u) (sym (take-take count (length blank - end) (drop end line) (omega arith)) ∙ ap (take count) kept)

pub none-overlaid : (rs : RowSheet) (index : ℕ) (blank line : List ℕ) → take (length blank) line ≡ blank → blank ≡ 10 ∷ blank_row rs.columns
    → IsUtf8 [] → IsUtf8 blank → IsOverlaid rs index blank line 0
none-overlaid rs index blank line same is nil utf8 =
    let e : length blank ≡ length blank - 0 = omega arith in
    record {
      end = 0;
      appended = none-appended rs index blank [] refl is nil utf8;
      kept = subst (λ n. take n line ≡ blank) e same;
    }

-- a text with as many bytes as columns was copied to its place
pub text-overlaid : {rs : RowSheet} {index : ℕ} {blank line : List ℕ} {column : ℕ} {placed : PlacedText} (slot : Slot) (next text : List ℕ)
    → IsOverlaid rs index blank line column → column < rs.columns.count
    → slot.place ≡ offset_at rs.columns column
    → IsSpacedLine (block_line rs index column) (rs.columns.width column) placed → length placed.text.now ≡ placed.columns
    → text ≡ placed.text.now → IsUtf8 text
    → take (slot.place + placed.before + length text) next ≡ take (slot.place + placed.before) line ++ take (length text) text
    → drop (slot.place + placed.before + length text) next ≡ drop (slot.place + placed.before + length text) line
    → slot.place + rs.columns.width column ≤ length blank → IsOverlaid rs index blank next (column + 1)
text-overlaid {rs} {index} {blank} {line} {column} {placed} slot next text o within place known size same utf8 copied rest reach =
    let a = o.appended in
    let start = slot.place + placed.before in
    let past : o.end ≤ start = omega (arith, a.next, place) in
    let end = start + length text in
    let front : take start line ≡ take o.end line ++ take (start - o.end) (drop o.end blank) =
    kept-take blank line o.end start past (omega (arith, reach, known.whole)) o.kept in
    elim (cases_lt 0 (rs.columns.width column)) [
      | inl some ↦
          let next_is : take end next ≡ (take o.end line ++ take (start - o.end) (drop o.end blank)) ++ placed.text.now =
          copied ∙ ap (λ u. u ++ take (length text) text) front
          ∙ ap (λ u. (take o.end line ++ take (start - o.end) (drop o.end blank)) ++ u) (take_all (length text) text (omega arith) ∙ same) in
          let ends : start + placed.columns ≡ end = omega (arith, size, ap length same) in
          record {
            end = end;
            appended = subst (λ n. IsAppended rs index blank (take end next) n (column + 1)) ends
                (text-appended start (take end next) a within known some (ap (λ n. n + placed.before) place) next_is (subst IsUtf8 same utf8));
            kept = ap (take (length blank - end)) rest ∙ kept-more blank line o.end end (omega (arith, past)) o.kept;
          }
      | inr none ↦
          let no_more : start + 0 ≡ start = omega arith in
          let empty : length text ≡ 0 = omega (arith, none, size, known.whole, ap length same) in
          let unchanged : next ≡ line = sym (take-append-drop end next) ∙ ap (λ u. u ++ drop end next) (copied ∙ ap (λ n. take start line ++ take n text) empty ∙ append-nil (take start line))
          ∙ ap (λ u. take start line ++ u) rest ∙ ap (λ n. take start line ++ drop (start + n) line) empty
          ∙ ap (λ n. take start line ++ drop n line) no_more ∙ take-append-drop start line in
          subst (λ u. IsOverlaid rs index blank u (column + 1)) (sym unchanged)
          (record {
            end = o.end;
            appended = blank-appended a within known (omega (arith, empty, ap length same)) (omega (arith, none, known.whole));
            kept = o.kept;
          })
    ]

pub all-overlaid : {rs : RowSheet} {index : ℕ} {blank line : List ℕ} {column : ℕ} (size : ℕ) → IsOverlaid rs index blank line column
    → column ≡ rs.columns.count → size ≡ length blank → size ≤ length line → IsFilled rs index line size
all-overlaid {rs} {index} {blank} {line} {column} size o all is within =
    let rest = drop o.end blank in
    let total : o.end + length rest ≡ size = omega (arith, is, length-drop o.end blank, o.appended.within) in
    let count : length rest ≡ length blank - o.end = length-drop o.end blank in
    subst (IsFilled rs index line) total
    (line-filled line rest o.end o.appended all refl
    (take-add o.end (length rest) line ∙ ap (λ u. take o.end line ++ u)
    (ap (λ n. take n (drop o.end line)) count ∙ o.kept ∙ sym (take_all (length rest) rest (omega arith))))
    (omega (arith, total, within)))
