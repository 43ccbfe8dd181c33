-- Where the bytes of comma-separated values are.
use Rattle.std.specs.Prelude.{◌≡◌, ℕ, ◌+◌, ◌-◌, ◌^◌, ◌==◌, ◌&&◌, ◌||◌, Bool, true, false, not, List, [], ◌∷◌, Option, Some, None, codes, fold, if◌then◌else◌, min, refl}
use Rattle.tabview_read.specs.declared.scan.Scan.{Scan}
use Rattle.tabview_read.specs.declared.scan.Within.{Within}
use Rattle.tabview_read.specs.declared.scan.Within.TheVariants.{Record, Field, Plain, Quotes, Quote}

-- a byte that ends a line
abbrev pub is_end : ℕ → Bool
is_end c = (c == 13) || (c == 10)

-- what follows a byte of a field without quotes, or behind a field
abbrev pub within_field : ℕ → ℕ → Within
within_field delimiter c = if c == delimiter then Field else if is_end c then Record else Plain

-- what follows the first byte of a field
abbrev pub begin_field : ℕ → ℕ → Within
begin_field delimiter c = if c == 34 then Quotes else within_field delimiter c

-- what follows one more byte
abbrev pub within_after : ℕ → Within → ℕ → Within
within_after delimiter Record c = if is_end c then Record else begin_field delimiter c
within_after delimiter Field c = begin_field delimiter c
within_after delimiter Plain c = within_field delimiter c
within_after delimiter Quotes c = if c == 34 then Quote else Quotes
within_after delimiter Quote c = begin_field delimiter c

-- what follows a text
abbrev pub within_text : ℕ → List ℕ → Within
within_text delimiter text = fold (within_after delimiter) Record text

abbrev pub is_quotes : Within → Bool
is_quotes Quotes = true
is_quotes Record = false
is_quotes Field = false
is_quotes Plain = false
is_quotes Quote = false

-- quotes may begin here
abbrev pub begins : Within → Bool
begins Record = true
begins Field = true
begins Plain = false
begins Quotes = false
begins Quote = false

abbrev pub is_record : Within → Bool
is_record Record = true
is_record Field = false
is_record Plain = false
is_record Quotes = false
is_record Quote = false

-- a byte that opens quotes
abbrev pub opens_quotes : Within → ℕ → Bool
opens_quotes within c = (c == 34) && begins within

-- the line of the byte behind this one
abbrev pub line_after : ℕ → ℕ → ℕ
line_after line c = min (line + (if c == 10 then 1 else 0)) (2 ^ 64 - 1)

-- the line in which the last quotes began
abbrev pub quote_after : Within → ℕ → ℕ → ℕ → ℕ
quote_after within line before c = if opens_quotes within c then line else before

-- a byte that ends a blank line: CR, or LF that isn't behind CR
abbrev pub ends_blank : Within → Bool → ℕ → Bool
ends_blank within behind_return c = is_record within && ((c == 13) || ((c == 10) && not behind_return))

-- a byte of a byte-order mark, at its index
abbrev pub is_mark_at : ℕ → ℕ → Bool
is_mark_at index c =
    if index == 0 then c == 0xEF
    else if index == 1 then c == 0xBB
    else if index == 2 then c == 0xBF
    else false

-- what is known of a text after one more byte. A byte-order mark is passed over
abbrev pub scan_after : Scan → ℕ → Scan
scan_after s c = record {
  delimiter = s.delimiter;
  within = if is_mark_at s.bytes c then s.within else within_after s.delimiter s.within c;
  is_return = c == 13;
  bytes = min (s.bytes + 1) (2 ^ 64 - 1);
  line = line_after s.line c;
  quote_line = quote_after s.within s.line s.quote_line c;
}

-- the line in which quotes began that aren't closed
abbrev pub open_quote : Scan → Option ℕ
open_quote s = if is_quotes s.within then Some s.quote_line else None

-- ---- examples

open_field : within_text 44 (codes "a,\"b\n") ≡ Quotes
open_field = refl

closed_field : within_text 44 (codes "a,\"b\"\n") ≡ Record
closed_field = refl

doubled_quote : within_text 44 (codes "\"b\"\"") ≡ Quotes
doubled_quote = refl

quote_inside : within_text 44 (codes "5\" disk") ≡ Plain
quote_inside = refl
