-- The byte between cells, as the first records of a text show it.
use Rattle.std.specs.Prelude.{◌≡◌, ℕ, ◌==◌, ◌&&◌, Bool, true, false, not, List, None, Some, codes, fold, if◌then◌else◌, nat_lt, refl, unwrap_or}
use Rattle.tabview_read.specs.CsvText.{is_record, within_after}
use Rattle.tabview_read.specs.Formats.{without_mark}
use Rattle.tabview_read.specs.Places.{counted}
use Rattle.tabview_read.specs.declared.delimiter.Tally.{Tally}
use Rattle.tabview_read.specs.declared.scan.Within.{Within}
use Rattle.tabview_read.specs.declared.scan.Within.TheVariants.{Record, Field, Plain, Quotes, Quote}

-- a record has ended: it has the delimiter as often as the first, or is the first
abbrev pub ended : Tally → Tally
ended t = record {
  within = Record;
  count = 0;
  first = Some (unwrap_or t.first t.count);
  is_equal = t.is_equal && (unwrap_or t.first t.count == t.count);
}

-- one more byte was taken, and this follows it
abbrev pub tally_with : Tally → Within → Tally
tally_with t Field = record t { within = Field; count = counted t.count }
tally_with t Record = if is_record t.within then record t { within = Record } else ended t
tally_with t Plain = record t { within = Plain }
tally_with t Quotes = record t { within = Quotes }
tally_with t Quote = record t { within = Quote }

abbrev pub tally_after : ℕ → Tally → ℕ → Tally
tally_after delimiter t c = tally_with t (within_after delimiter t.within c)

-- the last record has ended, if the text is whole
abbrev pub finished : Bool → Tally → Tally
finished whole t = if whole && not (is_record t.within) then ended t else t

abbrev pub new_tally : Tally
new_tally = record { within = Record; count = 0; first = None; is_equal = true }

-- how often a delimiter is in the records of a text
abbrev pub tally_of : ℕ → Bool → List ℕ → Tally
tally_of delimiter whole text = finished whole (fold (tally_after delimiter) new_tally text)

-- each record has it, and equally often
abbrev pub separates : Tally → Bool
separates t = t.is_equal && nat_lt 0 (unwrap_or t.first 0)

-- the first record has it
abbrev pub is_in_first : Tally → Bool
is_in_first t = nat_lt 0 (unwrap_or t.first t.count)

-- that of a text without a byte-order mark
abbrev pub text_delimiter : List ℕ → Bool → ℕ
text_delimiter text whole =
    if is_in_first (tally_of 44 whole text) then 44
    else if separates (tally_of 9 whole text) then 9
    else if separates (tally_of 59 whole text) then 59
    else if separates (tally_of 124 whole text) then 124
    else 44

abbrev pub delimiter_of : List ℕ → Bool → ℕ
delimiter_of head whole = text_delimiter (without_mark head) whole

-- ---- examples

semicolons : delimiter_of (codes "a;b\n1,5;2\n") true ≡ 59
semicolons = refl

comma_first : delimiter_of (codes "a;b,c\n1;2\n") true ≡ 44
comma_first = refl

tab_before_bar : delimiter_of (codes "a|b\tc\r\n1|2\t3") true ≡ 9
tab_before_bar = refl

not_equal : delimiter_of (codes "a;b\n1\n") true ≡ 44
not_equal = refl

last_is_cut : delimiter_of (codes "a|b\n1|2\n3") false ≡ 124
last_is_cut = refl

one_column : delimiter_of (codes "a\nb\n") true ≡ 44
one_column = refl
