-- The styles by their names.
use Rattle.std.specs.Prelude.{ℕ, ◌==◌, ◌&&◌, ◌||◌, Bool, false, not, List, [], ◌∷◌, Option, Some, None, codes, if◌then◌else◌, is_none, option_map, unwrap_or}
use Rattle.std.specs.List.{find}
use Rattle.std.specs.Str.{bytes_eq}
use Rattle.tabled_config.specs.Styles.{ascii, ascii_rounded, blank, extended, markdown, modern, modern_rounded, no_style, psql, re_structured_text, rounded, sharp}
use Rattle.tabled_config.specs.StyleChanges.{without_horizontals}
use Rattle.tabled_config.specs.declared.style.Style.{Style}

abbrev pub named_styles : List (List ℕ × Style)
named_styles =
    (codes "sharp", sharp)
    ∷ (codes "modern", modern)
    ∷ (codes "modern-rounded", modern_rounded)
    ∷ (codes "ascii", ascii)
    ∷ (codes "ascii-rounded", ascii_rounded)
    ∷ (codes "extended", extended)
    ∷ (codes "markdown", markdown)
    ∷ (codes "psql", psql)
    ∷ (codes "rst", re_structured_text)
    ∷ (codes "blank", blank)
    ∷ (codes "empty", no_style)
    ∷ []

-- the style of a name, `rounded` for any other and without one
abbrev pub style_of : Option (List ℕ) → Style
style_of None = rounded
style_of (Some name) = unwrap_or (option_map (λ s. s.1) (find (λ s. bytes_eq name s.0) named_styles)) rounded

abbrev pub is_markdown : Option (List ℕ) → Bool
is_markdown None = false
is_markdown (Some name) = bytes_eq name (codes "markdown")

-- whether the line below the first row is drawn: never by markdown. Else the row is a header, and rows
-- are below it, or the table has no line at its bottom
abbrev pub draws_line : Option (List ℕ) → Bool → ℕ → Style → Bool
draws_line name header rows style = not (is_markdown name) && (header && (not (rows == 1) || is_none style.borders.bottom))

-- the style for a table of some rows
abbrev pub style_for : Option (List ℕ) → Bool → ℕ → Style
style_for name header rows =
    if draws_line name header rows (style_of name) then style_of name else without_horizontals (style_of name)
