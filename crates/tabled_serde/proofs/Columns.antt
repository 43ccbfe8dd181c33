-- The columns that names can have below a header.
use Rattle.std.proofs.Common.{List, [], ap, append_assoc, arith, drop, inl, inr, length, length-append, refl, subst, sym, ℕ, ◌++◌, ◌+◌, ◌∙◌, ◌∷◌, ◌≡◌, ◌≢◌, ◌≤◌, ◌⊎◌}
use Rattle.std.proofs.Math.Seq.{drop-append_seam}
use Rattle.std.proofs.lemmas.List.{same_from_push}
use Rattle.tabled_serde.specs.RowErrors.{HaveColumns}
use Rattle.tabled_serde.specs.Rows.{IsBelow, and_cell, and_empty, no_column}

no_push : (xs : List (List ℕ)) (x : List ℕ) → [] ≢ xs ++ x ∷ []
no_push xs x same = absurd (omega (arith, ap length same, length-append xs (x ∷ [])))

-- the last name of a header has a cell below it, or an empty one
last_column : {whole names cells row : List (List ℕ)} (header : List (List ℕ)) (name : List ℕ) → IsBelow whole names cells row → whole ≡ header ++ name ∷ []
    → HaveColumns header names ⊎ ((before : List (List ℕ)) × (names ≡ before ++ name ∷ []) × HaveColumns header before)
last_column header name no_column same = absurd (no_push header name same)
last_column header name (and_cell h names cells row own cell below) same =
    let parts = same_from_push h header own name same in
    inr (names, ap (λ n. names ++ n ∷ []) parts.1, (cells, row, subst (λ h. IsBelow h names cells row) parts.0 below))
last_column header name (and_empty h names cells row own below) same =
    let parts = same_from_push h header own name same in
    inl (cells, row, subst (λ h. IsBelow h names cells row) parts.0 below)

no_columns : {header names cells row : List (List ℕ)} → IsBelow header names cells row → header ≡ [] → length names ≡ 0
no_columns no_column same = refl
no_columns (and_cell header names cells row name cell below) same = absurd (no_push header name (sym same))
no_columns (and_empty header names cells row name below) same = absurd (no_push header name (sym same))

-- of these names at most so many from the first on have columns
abbrev pub AtMost : List (List ℕ) → List (List ℕ) → ℕ → Type 0
AtMost header names count = (before after : List (List ℕ)) → names ≡ before ++ after → HaveColumns header before → length before ≤ count

pub none-at_most : (names : List (List ℕ)) → AtMost [] names 0
none-at_most names before after same placed = omega (arith, no_columns placed.2 refl)

-- one more, where the next name has a column
pub more-at_most : (header names : List (List ℕ)) (name : List ℕ) (count : ℕ) → AtMost header names count → AtMost (header ++ name ∷ []) names (count + 1)
more-at_most header names name count most before after same placed =
    elim (last_column header name placed.2 refl) [
      | inl old ↦ omega (arith, most before after same old)
      | inr found ↦ omega (
        arith,
        most found.0 (name ∷ after) (same ∙ ap (λ b. b ++ after) found.1 ∙ append_assoc found.0 (name ∷ []) after) found.2,
        ap length found.1,
        length-append found.0 (name ∷ []),
      )
    ]

-- no more, where another name comes next
pub same-at_most : (header names placed rest : List (List ℕ)) (name : List ℕ) → AtMost header names (length placed) → names ≡ placed ++ rest
    → ((after : List (List ℕ)) → rest ≢ name ∷ after) → AtMost (header ++ name ∷ []) names (length placed)
same-at_most header names placed rest name most parts other before after same columns =
    elim (last_column header name columns.2 refl) [
      | inl old ↦ most before after same old
      | inr found ↦
          let from_here = same ∙ ap (λ b. b ++ after) found.1 ∙ append_assoc found.0 (name ∷ []) after in
          let shorter : length found.0 ≢ length placed = λ long. other after (
          sym (drop-append_seam placed rest)
          ∙ ap (λ l. drop (length placed) l) (sym parts ∙ from_here)
          ∙ ap (λ n. drop n (found.0 ++ name ∷ after)) (sym long)
          ∙ drop-append_seam found.0 (name ∷ after)
          ) in
          omega (arith, most found.0 (name ∷ after) from_here found.2, ap length found.1, length-append found.0 (name ∷ []))
    ]
