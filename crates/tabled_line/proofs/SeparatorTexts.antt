-- Parts of the text that stands between the texts of two columns.
use Rattle.tabled_line.proofs.Names.{List, [], ap, append-nil, append_assoc, arith, drop, fill, get_or, get_or-append-add, length}
use Rattle.tabled_line.proofs.Names.{length-append, lit<, piece, refl, separator_text, slice_range, sym, take, take-append_seam, ℕ, ◌++◌}
use Rattle.tabled_line.proofs.Names.{◌+◌, ◌-◌, ◌<◌, ◌∙◌, ◌≡◌, ◌≤◌}
use Rattle.tabled_config.specs.declared.borders.VerticalLine.{VerticalLine}
use Rattle.tabled_line.proofs.Fills.{fill-add, fill-drop, fill-first_bytes, fill-length}

pub separator-length : (bar : VerticalLine) (behind before : ℕ) → length (separator_text bar behind before) ≡ behind + (length (piece bar.there bar.main) + before)
separator-length bar behind before =
    omega (
      arith,
      length-append (fill 32 behind) (piece bar.there bar.main ++ fill 32 before),
      length-append (piece bar.there bar.main) (fill 32 before),
      fill-length 32 behind (lit< tt),
      fill-length 32 before (lit< tt),
    )

-- a beginning of it, with fewer spaces behind the line
separator-take : (bar : VerticalLine) (behind before more n : ℕ) → n ≡ length (separator_text bar behind before) → take n (separator_text bar behind (before + more)) ≡ separator_text bar behind before
separator-take bar behind before more n e =
    let line = piece bar.there bar.main in
    let parts : separator_text bar behind (before + more) ≡ separator_text bar behind before ++ fill 32 more =
    ap (λ u. fill 32 behind ++ (line ++ u)) (fill-add 32 before more (before + more) refl) ∙ regroup (fill 32 behind) line (fill 32 before) (fill 32 more) in
    ap (λ k. take k (separator_text bar behind (before + more))) e ∙ ap (take (length (separator_text bar behind before))) parts
    ∙ take-append_seam (separator_text bar behind before) (fill 32 more)
  where
    regroup : (a b c d : List ℕ) → a ++ (b ++ (c ++ d)) ≡ (a ++ (b ++ c)) ++ d
    regroup a b c d = simp append_assoc

-- a part of it, with fewer spaces on both sides
pub separator-part : (bar : VerticalLine) (n behind before : ℕ) → behind ≤ n → before ≤ n
    → slice_range (separator_text bar n n) (n - behind) (length (separator_text bar n n) - (n - before)) ≡ separator_text bar behind before
separator-part bar n behind before l m =
    let rest = piece bar.there bar.main ++ fill 32 n in
    let long = separator-length bar n n in
    let short = separator-length bar behind before in
    let sum : n - behind + behind ≡ n = omega arith in
    let more : before + (n - before) ≡ n = omega arith in
    let dropped : drop (n - behind) (separator_text bar n n) ≡ separator_text bar behind (before + (n - before)) =
    ap (λ k. drop (n - behind) (fill 32 k ++ rest)) (sym sum) ∙ fill-drop 32 (n - behind) behind rest (lit< tt)
    ∙ ap (λ k. separator_text bar behind k) (sym more) in
    let count : length (separator_text bar n n) - (n - before) - (n - behind) ≡ length (separator_text bar behind before) = omega arith in
    ap (take (length (separator_text bar n n) - (n - before) - (n - behind))) dropped ∙ separator-take bar behind before (n - before) _ count

-- the bytes of the spaces at its end
pub separator-last_bytes : (bar : VerticalLine) (behind before i : ℕ) → length (separator_text bar behind before) - before ≤ i → i < length (separator_text bar behind before)
    → get_or (separator_text bar behind before) i 0 < 128
separator-last_bytes bar behind before i l m =
    let line = piece bar.there bar.main in
    let front = fill 32 behind ++ line in
    let long = separator-length bar behind before in
    let first : length front ≡ behind + length line = omega (arith, length-append (fill 32 behind) line, fill-length 32 behind (lit< tt)) in
    let k = i - length front in
    let place : length front + k ≡ i = omega arith in
    let here : get_or (separator_text bar behind before) i 0 ≡ get_or (fill 32 before ++ []) k 0 =
    ap (λ u. get_or u i 0) (sym (append_assoc (fill 32 behind) line (fill 32 before))) ∙ ap (λ n. get_or (front ++ fill 32 before) n 0) (sym place)
    ∙ get_or-append-add front (fill 32 before) k 0 ∙ ap (λ u. get_or u k 0) (sym (append-nil (fill 32 before))) in
    let small = fill-first_bytes 32 before k [] (lit< tt) (omega arith) in
    omega arith

-- the spaces that are too many for a part of it stand around that
pub separator-parts : (bar : VerticalLine) (behind before first last : ℕ) → first ≤ behind → last ≤ before
    → separator_text bar behind before ≡ fill 32 (behind - first) ++ (separator_text bar first last ++ fill 32 (before - last))
separator-parts bar behind before first last l m =
    let line = piece bar.there bar.main in
    ap (λ u. u ++ (line ++ fill 32 before)) (fill-add 32 (behind - first) first behind (omega arith))
    ∙ ap (λ u. (fill 32 (behind - first) ++ fill 32 first) ++ (line ++ u)) (fill-add 32 last (before - last) before (omega arith))
    ∙ regroup (fill 32 (behind - first)) (fill 32 first) line (fill 32 last) (fill 32 (before - last))
  where
    regroup : (a b c d e : List ℕ) → (a ++ b) ++ (c ++ (d ++ e)) ≡ a ++ ((b ++ (c ++ d)) ++ e)
    regroup a b c d e = simp append_assoc
