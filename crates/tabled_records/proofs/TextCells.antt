-- The cells of a text are texts.
use Rattle.tabled_records.proofs.Names.{All, All-append, All-cons, All-map, All-nil, Bool, IsCharBoundary-after_ascii, IsUtf8, List, []}
use Rattle.tabled_records.proofs.Names.{arith, cases_lt, tab_separated, cond, drop, get_or, inl, inr, length, length-drop, lengthened, lines_of}
use Rattle.tabled_records.proofs.Names.{most_cells, replicate, slice_split_none, subst, suc, sym, take, zero, ℕ, ◌+◌, ◌-◌, ◌<◌, ◌==◌, ◌≡◌}
use Rattle.tabled_records.proofs.Names.{◌≤◌}
use Rattle.std.specs.List.{position_or_len, slice_index, slice_split}
use Rattle.std.proofs.lemmas.Bool.{cases_Bool, eqb-true}
use Rattle.std.proofs.lemmas.List.Elements.{All-replicate}
use Rattle.std.proofs.lemmas.List.Splits.{slice_split_first}
use Rattle.std.proofs.lemmas.List.Sums.{fails_before_first, passes_at_first}
use Rattle.std.proofs.lemmas.Str.{IsCharBoundary-before_ascii, IsUtf8-drop, IsUtf8-nil, IsUtf8-take}
use Rattle.tabled_text.proofs.Bridge.{utf8_lines}
use Rattle.tabled_records.specs.TextRows.{row_lines, text_rows, without_last_feed}

-- a text that is cut at its first ASCII character of some kind, and what follows
split_step : (d : ℕ) → d < 128 → (bs : List ℕ) → IsUtf8 bs
    → ((rest : List ℕ) → length rest < length bs → IsUtf8 rest → All IsUtf8 (slice_split (λ b. b == d) rest)) → All IsUtf8 (slice_split (λ b. b == d) bs)
split_step d small bs u others =
    let p : ℕ → Bool = λ b. b == d in
    let i = position_or_len p bs in
    let rest = drop (i + 1) bs in
    elim (cases_lt i (length bs)) [
      | inl inside ↦
          let is : get_or bs i 0 ≡ d = eqb-true (get_or bs i 0) d (passes_at_first p bs 0 inside) in
          let ascii : get_or bs i 0 < 128 = omega arith in
          subst (All IsUtf8) (sym (slice_split_first p bs 0 inside))
          (All-cons IsUtf8 (take i bs) (slice_split p rest) (IsUtf8-take bs i u (IsCharBoundary-before_ascii bs i inside ascii))
          (others rest (omega (arith, length-drop (i + 1) bs)) (IsUtf8-drop bs (i + 1) u (IsCharBoundary-after_ascii bs i u inside ascii))))
      | inr none ↦
          subst (All IsUtf8) (sym (slice_split_none p bs (λ k e l. fails_before_first p bs k e (omega arith))))
          (All-cons IsUtf8 bs [] u (All-nil IsUtf8))
    ]

-- a text that is cut at each of some ASCII character gives texts
split_utf8 : (d : ℕ) → d < 128 → (n : ℕ) (bs : List ℕ) → length bs ≤ n → IsUtf8 bs → All IsUtf8 (slice_split (λ b. b == d) bs)
split_utf8 d small zero bs le u = split_step d small bs u (λ rest l v. absurd (omega arith))
split_utf8 d small (suc n) bs le u = split_step d small bs u (λ rest l v. split_utf8 d small n rest (omega arith) v)

whole_utf8 : (text : List ℕ) → IsUtf8 text → IsUtf8 (without_last_feed text)
whole_utf8 text u =
    elim (cases_Bool (slice_index text (length text - 1) == 10)) [
      | inl feed ↦
          subst (λ b. IsUtf8 (cond b (take (length text - 1) text) text)) (sym feed)
          (elim (cases_lt 0 (length text)) [
            | inl some ↦
                let is : slice_index text (length text - 1) ≡ 10 = eqb-true (slice_index text (length text - 1)) 10 feed in
                IsUtf8-take text (length text - 1) u (IsCharBoundary-before_ascii text (length text - 1) (omega arith) (omega arith))
            | inr none ↦ let e : length text - 1 ≡ 0 = omega arith in subst (λ k. IsUtf8 (take k text)) (sym e) IsUtf8-nil
          ])
      | inr other ↦ subst (λ b. IsUtf8 (cond b (take (length text - 1) text) text)) (sym other) u
    ]

rows_utf8 : (text : List ℕ) → IsUtf8 text → All IsUtf8 (row_lines text)
rows_utf8 text u =
    elim (cases_Bool (length text == 0)) [
      | inl feed ↦ subst (λ b. All IsUtf8 (cond b [] (lines_of (without_last_feed text)))) (sym feed) (All-nil IsUtf8)
      | inr other ↦ subst (λ b. All IsUtf8 (cond b [] (lines_of (without_last_feed text)))) (sym other) (utf8_lines (without_last_feed text) (whole_utf8 text u))
    ]

row_utf8 : (n : ℕ) (line : List ℕ) → IsUtf8 line → All IsUtf8 (lengthened n (tab_separated line))
row_utf8 n line u =
    All-append IsUtf8 (tab_separated line) (replicate (n - length (tab_separated line)) [])
    (split_utf8 9 (omega arith) (length line) line (omega arith) u) (All-replicate IsUtf8 (n - length (tab_separated line)) [] IsUtf8-nil)

-- each cell of a text is a text
pub text_cells : (text : List ℕ) → IsUtf8 text → All (All IsUtf8) (text_rows text)
unfolding text_rows
text_cells text u =
    let n = most_cells (row_lines text) in
    All-map (All IsUtf8) (λ line. lengthened n (tab_separated line)) (row_lines text)
    (λ k d h. row_utf8 n (get_or (row_lines text) k d) (rows_utf8 text u k d h))
