-- Rows of texts in which each text is changed for the width of its column.
use Rattle.std.specs.Prelude.{ℕ, List, [], ◌∷◌, Option, Some, None, map}

-- a text changed for a width, or the text itself if its column has no width
abbrev pub sized_text : (ℕ → List ℕ → List ℕ) → Option ℕ → List ℕ → List ℕ
sized_text change None text = text
sized_text change (Some n) text = change n text

-- the texts of a row, each changed for the width of its column. Those after the last width aren't
-- changed
abbrev pub sized_row : (ℕ → List ℕ → List ℕ) → List (Option ℕ) → List (List ℕ) → List (List ℕ)
sized_row change [] row = row
sized_row change (width ∷ widths) [] = []
sized_row change (width ∷ widths) (text ∷ row) = sized_text change width text ∷ sized_row change widths row

abbrev pub sized_rows : (ℕ → List ℕ → List ℕ) → List (Option ℕ) → List (List (List ℕ)) → List (List (List ℕ))
sized_rows change widths rows = map (sized_row change widths) rows
