-- One more cell is chosen.
use Rattle.std.proofs.Common.{append-nil, append_assoc, ◌≡◌, ℕ, ◌+◌, ◌<◌, List, [], ◌∷◌, ◌++◌, Option, Some, None, length, map, take, get_or, option_map, sym, ap, ◌∙◌}
use Rattle.std.specs.Prelude.{unwrap_or}
use Rattle.std.specs.Borrow.{Bor}
use Rattle.std.proofs.lemmas.List.{map-append, take_more}
use Rattle.tabled_records.specs.Joined.{Written, with_text}
use Rattle.tabview_cells.specs.Choice.{with_texts}

pub chosen-more : (f : ℕ → List ℕ) (columns : List ℕ) (i : ℕ) (cell : List ℕ) → i < length columns → cell ≡ f (get_or columns i 0)
    → map f (take i columns) ++ cell ∷ [] ≡ map f (take (i + 1) columns)
chosen-more f columns i cell h e =
    ap (λ c. map f (take i columns) ++ c ∷ []) e
    ∙ sym (ap (map f) (take_more columns i 0 h) ∙ map-append f (take i columns) (get_or columns i 0 ∷ []))

-- the text of a cell, empty if there is none
pub cell-text : (o : Option (Bor (List ℕ))) (none cell : Bor (List ℕ)) → none.now ≡ [] → cell ≡ unwrap_or o none → cell.now ≡ unwrap_or (option_map (λ (s : Bor (List ℕ)). s.now) o) []
cell-text None none cell e h = ap (λ (s : Bor (List ℕ)). s.now) h ∙ e
cell-text (Some x) none cell e h = ap (λ (s : Bor (List ℕ)). s.now) h

-- the row that is begun has these texts
abbrev with_begun : Written → List (List ℕ) → Written
with_begun w texts = record { rows = w.rows; begun = texts }

-- one more text is in the row that is begun
pub begun-more : (w : Written) (front all : List (List ℕ)) (text : List ℕ) → front ++ text ∷ [] ≡ all
    → with_text (with_texts w front) text ≡ with_texts w all
begun-more w front all text e =
    ap (λ (t : List (List ℕ)). with_begun w t) (append_assoc w.begun front (text ∷ []) ∙ ap (λ t. w.begun ++ t) e)

-- without further texts it stays
pub begun-none : (w : Written) → with_texts w [] ≡ w
begun-none w = ap (λ (t : List (List ℕ)). with_begun w t) (append-nil w.begun)
