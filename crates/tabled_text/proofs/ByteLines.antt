-- Printable ASCII whose lines end after n bytes: its first line, and its columns and lines.
use Rattle.tabled_text.proofs.Names.{Bor, List, None, Some, and_from, and_parts, ap, arith, cases_lt, drop, false, inl, inr}
use Rattle.tabled_text.proofs.Names.{is_in_range, length, length-drop, length-take-le, line_columns, lines_of, min, nat_lt, refl, subst, suc}
use Rattle.tabled_text.proofs.Names.{sym, take, text_columns, true, zero, ℕ, ◌*◌, ◌%◌, ◌++◌, ◌+◌, ◌/◌, ◌<◌, ◌∙◌, ◌∷◌, ◌≡◌, ◌≤◌}
use Rattle.std.proofs.lemmas.Bool.{ltb-true}
use Rattle.std.proofs.lemmas.Grind.{div_ceil_times}
use Rattle.tabled_text.specs.LineEnds.{AreEnds, IsFirstLine, wrapped_text}
use Rattle.tabled_text.specs.declared.line_ends.LineEnds.TheVariants.{Bytes}
use Rattle.tabled_text.proofs.Basics.{all-parts}
use Rattle.tabled_text.proofs.Bridge.{count_lines-feed, lines_of-feed, text_columns-feed}
use Rattle.tabled_text.proofs.Pieces.{is_printable}
use Rattle.tabled_text.proofs.PlainLines.{plain_line-lines, plain_line-printable, text_columns-plain_line}
use Rattle.tabled_text.proofs.WrappedText.{wrapped-broken, wrapped-short}

-- ---- the first line

pub record IsPrinted (n : ℕ) (text : List ℕ) : Type 0 where
  pub some : 0 < n
  pub printable : is_printable text ≡ true

pub ends_printable : (n : ℕ) (text : List ℕ) → AreEnds (Bytes n) text → IsPrinted n text
ends_printable n text h =
    let parts = and_parts (nat_lt 0 n) (is_printable text) h in
    record { some = ltb-true 0 n parts.0; printable = parts.1 }

pub only_of_bytes : (n : ℕ) (text : List ℕ) → AreEnds (Bytes n) text → length text ≤ n
    → IsFirstLine (Bytes n) text text (length text) None
only_of_bytes n text h le =
    let ends = ends_printable n text h in
    let own = plain_line-printable text ends.printable in
    record {
      lines = ap lines_of (wrapped-short n false text ends.some own.utf8 le) ∙ plain_line-lines own;
      takes = sym own.columns;
      ends_are = tt;
    }

pub first_of_bytes : (n : ℕ) (text front : List ℕ) (rest : Bor (List ℕ)) → AreEnds (Bytes n) text → n < length text
    → front ≡ take n text → rest.now ≡ drop n text → IsFirstLine (Bytes n) text front n (Some rest)
first_of_bytes n text front rest h long f b =
    let ends = ends_printable n text h in
    let parts = all-parts (is_in_range 0x20 0x7E) n text ends.printable in
    let own = plain_line-printable (take n text) parts.0 in
    let len : n ≡ length (take n text) = sym (length-take-le n text (omega arith)) in
    record {
      lines = ap lines_of (wrapped-broken n text ends.some ends.printable long)
          ∙ lines_of-feed (take n text) (wrapped_text n false (drop n text))
          ∙ ap (λ ls. ls ++ lines_of (wrapped_text n false (drop n text))) (plain_line-lines own)
          ∙ ap (λ l. l ∷ lines_of (wrapped_text n false (drop n text))) (sym f)
          ∙ ap (λ l. front ∷ lines_of (wrapped_text n false l)) (sym b);
      takes = len ∙ sym own.columns ∙ ap line_columns (sym f);
      ends_are = subst (λ l. AreEnds (Bytes n) l) (sym b)
          (and_from (nat_lt 0 n) (is_printable (drop n text)) (and_parts (nat_lt 0 n) (is_printable text) h).0 parts.1);
    }

-- ---- columns and lines

-- the columns of so many lines
pub record TakesLines (n count : ℕ) (text : List ℕ) : Type 0 where
  pub columns : text_columns (wrapped_text n false text) ≡ min n (length text)
  pub lines : length (lines_of (wrapped_text n false text)) ≡ count

no_more : (n k m : ℕ) → k * n < m → m ≤ n → 1 ≡ suc k
no_more n zero m low le = refl
no_more n (suc k) m low le = absurd (omega arith)

-- as many as the bytes divided by n, rounded up
pub takes_lines : (n count : ℕ) (text : List ℕ) → 0 < n → is_printable text ≡ true → 0 < length text → length text ≤ count * n
    → count * n < length text + n → TakesLines n count text
takes_lines n zero text some h long high low = absurd (omega arith)
takes_lines n (suc k) text some h long high low =
    let e : suc k * n ≡ n + k * n = omega arith in
    elim (cases_lt n (length text)) [
      | inl more ↦
          let front = take n text in
          let back = drop n text in
          let parts = all-parts (is_in_range 0x20 0x7E) n text h in
          let own = plain_line-printable front parts.0 in
          let whole = wrapped-broken n text some h more in
          let len = length-drop n text in
          let rest = takes_lines n k back some parts.1 (omega arith) (omega arith) (omega arith) in
          record {
            columns = omega (
              arith,
              ap text_columns whole,
              text_columns-feed front (wrapped_text n false back),
              text_columns-plain_line own,
              length-take-le n text (omega arith),
              rest.columns,
            );
            lines = omega (
              arith,
              ap (λ l. length (lines_of l)) whole,
              count_lines-feed front (wrapped_text n false back),
              ap length (plain_line-lines own),
              rest.lines,
            );
          }
      | inr few ↦
          let own = plain_line-printable text h in
          let whole = wrapped-short n false text some own.utf8 few in
          record {
            columns = omega (arith, ap text_columns whole, text_columns-plain_line own);
            lines = ap (λ l. length (lines_of l)) whole ∙ ap length (plain_line-lines own) ∙ no_more n k (length text) (omega arith) few;
          }
    ]

-- the quotient that `div_ceil` returns is that number
pub ceiled : (n count m : ℕ) → 0 < n → count ≡ m / n + min 1 (m % n) → (m ≤ count * n) × (count * n < m + n)
ceiled n count m some e = subst (λ k. (m ≤ k * n) × (k * n < m + n)) (sym e) (div_ceil_times m n some)

-- more bytes than n take several lines
pub several_lines : (n count m : ℕ) → n < m → m ≤ count * n → 1 < count
several_lines n zero m long high = absurd (omega arith)
several_lines n (suc zero) m long high = absurd (omega arith)
several_lines n (suc (suc count)) m long high = omega arith
