-- Which format an input has. A text is the list of its bytes.
use Rattle.std.specs.Prelude.{◌≡◌, ◌==◌, ◌||◌, ◌++◌, ℕ, Bool, List, [], ◌∷◌, Option, Some, None, codes, drop, if◌then◌else◌, not, refl, unwrap_or}
use Rattle.std.specs.Char.{is_ascii_whitespace}
use Rattle.std.specs.List.{find, list_any, starts_with}
use Rattle.std.specs.Option.{option_and_then, option_or}
use Rattle.std.specs.Str.{bytes_eq}
use Rattle.tabview_read.specs.declared.format.Format.{Format}
use Rattle.tabview_read.specs.declared.format.Format.TheVariants.{Csv, Tsv, Json, JsonLines, Sqlite}

-- ---- by name

-- a text is one of these names
abbrev pub is_one : List (List ℕ) → List ℕ → Bool
is_one names text = list_any (bytes_eq text) names

-- the format of a name
abbrev pub format_of_name : List ℕ → Option Format
format_of_name name =
    if is_one (codes "csv" ∷ []) name then Some Csv
    else if is_one (codes "tsv" ∷ codes "tab" ∷ []) name then Some Tsv
    else if is_one (codes "json" ∷ []) name then Some Json
    else if is_one (codes "jsonl" ∷ codes "ndjson" ∷ []) name then Some JsonLines
    else if is_one (codes "sqlite" ∷ codes "sqlite3" ∷ codes "db" ∷ []) name then Some Sqlite
    else None

-- the ending of a path: what follows its last dot
abbrev pub ending_of : List ℕ → Option (List ℕ)
ending_of [] = None
ending_of (byte ∷ path) = option_or (ending_of path) (if byte == 46 then Some path else None)

-- the format that the ending of a path names
abbrev pub format_of_path : List ℕ → Option Format
format_of_path path = option_and_then format_of_name (ending_of path)

-- ---- by the first bytes

-- what a database of SQLite begins with
abbrev pub sqlite_head : List ℕ
sqlite_head = codes "SQLite format 3" ++ 0 ∷ []

-- the byte-order mark, in UTF-8
abbrev pub byte_order_mark : List ℕ
byte_order_mark = 0xEF ∷ 0xBB ∷ 0xBF ∷ []

-- a text without a byte-order mark before it
abbrev pub without_mark : List ℕ → List ℕ
without_mark text = if starts_with ◌==◌ text byte_order_mark then drop 3 text else text

-- JSON begins with an opening bracket, and JSON lines with a brace
abbrev pub format_of_first : Option ℕ → Option Format
format_of_first None = None
format_of_first (Some byte) =
    if byte == 91 then Some Json
    else if byte == 123 then Some JsonLines
    else None

-- tab-separated values have a tab in the first line before any comma
abbrev pub format_of_separator : Option ℕ → Format
format_of_separator None = Csv
format_of_separator (Some byte) = if byte == 9 then Tsv else Csv

-- the first byte that isn't ASCII white space
abbrev pub first_visible : List ℕ → Option ℕ
first_visible text = find (λ byte. not (is_ascii_whitespace byte)) text

-- the first tab, comma or line feed
abbrev pub first_separator : List ℕ → Option ℕ
first_separator text = find (λ byte. (byte == 9) || (byte == 44) || (byte == 10)) text

-- the format of a text
abbrev pub format_of_text : List ℕ → Format
format_of_text text =
    unwrap_or (format_of_first (first_visible text)) (format_of_separator (first_separator text))

-- the format that the first bytes of an input are of
abbrev pub format_of_head : List ℕ → Format
format_of_head head =
    if starts_with ◌==◌ head sqlite_head then Sqlite
    else format_of_text (without_mark head)

-- ---- examples

named_tab : format_of_name (codes "tab") ≡ Some Tsv
named_tab = refl

named_otherwise : format_of_name (codes "CSV") ≡ None
named_otherwise = refl

last_ending : format_of_path (codes "a.csv/b.json") ≡ Some Json
last_ending = refl

dot_file : format_of_path (codes ".db") ≡ Some Sqlite
dot_file = refl

dot_in_folder : format_of_path (codes "a.csv/b") ≡ None
dot_in_folder = refl

no_ending : format_of_path (codes "csv") ≡ None
no_ending = refl

begins_with_bracket : format_of_head (byte_order_mark ++ codes "\n [") ≡ Json
begins_with_bracket = refl

begins_with_brace : format_of_head (codes "{\"a\": 1}") ≡ JsonLines
begins_with_brace = refl

tab_before_comma : format_of_head (codes "a\tb,c") ≡ Tsv
tab_before_comma = refl

comma_before_tab : format_of_head (codes "a,b\tc") ≡ Csv
comma_before_tab = refl

tab_below : format_of_head (codes "a\nb\tc") ≡ Csv
tab_below = refl

empty_head : format_of_head [] ≡ Csv
empty_head = refl
