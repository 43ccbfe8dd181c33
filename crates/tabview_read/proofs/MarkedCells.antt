-- Texts of Markdown, one character or one cell after another.
use Rattle.std.proofs.Common.{◌≡◌, Bool, true, false, Option, Some, None, ℕ, ◌+◌, ◌<◌, ◌≤◌, List, [], ◌∷◌, ◌++◌, ap, arith, chars, encode_utf8, encode_utf8_all, get_or, IsUtf8, length, map, refl, sym, take, ◌∙◌}
use Rattle.std.specs.List.{flat_map}
use Rattle.std.proofs.lemmas.List.{map-append, take_all, take_more}
use Rattle.std.proofs.lemmas.Str.{chars-nil, chars_past_char, encodes-append}
use Rattle.std.specs.Prelude.{if◌then◌else◌}
use Rattle.tabview_read.specs.MarkedCells.{GivesMarkdown, IsMarkdownOf, markdown, markdown_char}
use Rattle.tabview_read.specs.declared.row.Row.{Row}

-- one more character is written
pub markdown-step : (c : ℕ) (bs rest : List ℕ) → IsUtf8 bs → bs ≡ encode_utf8 c ++ rest
    → markdown bs ≡ encode_utf8_all (markdown_char c) ++ markdown rest
markdown-step c bs rest u e =
    ap (λ cs. encode_utf8_all (flat_map markdown_char cs)) (chars_past_char bs rest c u e)
    ∙ encodes-append (markdown_char c) (flat_map markdown_char (chars rest))

pub markdown-empty : (bs : List ℕ) → length bs ≡ 0 → markdown bs ≡ []
markdown-empty [] h = ap (λ cs. encode_utf8_all (flat_map markdown_char cs)) chars-nil
markdown-empty (b ∷ bs) h = absurd (omega arith)

-- one more cell is written
pub markdown-next : (xs : List (List ℕ)) (i : ℕ) (out more : List (List ℕ)) (x text : List ℕ) → i < length xs → x ≡ get_or xs i [] → text ≡ markdown x
    → out ≡ map markdown (take i xs) → more ≡ out ++ text ∷ [] → more ≡ map markdown (take (i + 1) xs)
markdown-next xs i out more x text h at is done added =
    added ∙ ap (λ l. l ++ text ∷ []) done ∙ ap (λ t. map markdown (take i xs) ++ t ∷ []) (is ∙ ap markdown at)
    ∙ sym (ap (map markdown) (take_more xs i [] h) ∙ map-append markdown (take i xs) (get_or xs i [] ∷ []))

-- all are
pub markdown-all : (xs : List (List ℕ)) (i : ℕ) (out : List (List ℕ)) → length xs ≤ i → out ≡ map markdown (take i xs) → out ≡ map markdown xs
markdown-all xs i out h done = done ∙ ap (map markdown) (take_all i xs h)

-- ---- rows
pub markdown-read : {S : Type 0} (gives : S → Option Row → S → Type 0) (from to : S) (found : Bool) (plain row : Row) → found ≡ true
    → gives from (if found then Some plain else None) to → IsMarkdownOf plain row → GivesMarkdown gives from (Some row) to
markdown-read gives from to true plain row is given marked = (plain, given, marked)
markdown-read gives from to false plain row is given marked = absurd (cc)
