-- Compact tables that are printed, or refused before the first byte.
use Rattle.tabled_compact.proofs.Names.{Bool, CompactSheet, Err, IfSome, IsErrAnd, FailsToPrintCompact, IsSpent, List, Ok, Option, PrintsCompact}
use Rattle.tabled_compact.proofs.Names.{PutsRows, Result, Sends, Sent, Some, TableError, Window, WritesLines, [], ap, arith}
use Rattle.tabled_compact.proofs.Names.{false, has_rows, if◌then◌else◌, in_window, inl, inr, length, nat_tests, refl}
use Rattle.tabled_compact.proofs.Names.{rows_lines, spanned, subst, sym, tail_lines, true, ℕ, ⊎_elim, ◌++◌, ◌+◌, ◌==◌, ◌∙◌, ◌∷◌, ◌≡◌, ◌≤◌}
use Rattle.tabled_compact.proofs.Names.{◌⊎◌}
use Rattle.std.proofs.Common.{MatchResult, OnErr}
use Rattle.tabled_line.specs.StopsBelow.{StopsBelow}
use Rattle.tabled_line.proofs.Below.{joined-below, lines-below}
use Rattle.tabled_line.proofs.Leading.{lines-further, lines-text}
use Rattle.tabled_line.proofs.Sending.{sends-along, sends-none}
use Rattle.tabled_compact.specs.CompactLines.{compact_lines, compact_text, rows_text}
use Rattle.tabled_compact.specs.Printed.{IsPrintableCompact, IsPrinted, StopsInRow}
use Rattle.tabled_compact.specs.Shown.{AreEnough, AreWanted, shown_rows, wanted}
use Rattle.tabled_compact.proofs.RowPieces.{begun-rows}
use Rattle.tabled_compact.proofs.Windows.{window-none, window-one, window-wanted}

nothing-sent : (t : CompactSheet) (rows : List (List (List ℕ))) (a : Sent) → rows ≡ [] → Sends a a (compact_text t rows)
unfolding compact_lines
nothing-sent t rows a e = sends-along a a [] (compact_text t rows) (sends-none a) (sym (ap (compact_text t) e))

either : {A : Type 0} (b : Bool) (x y : A) → y ≡ x → (if b then x else y) ≡ x
either true x y e = refl
either false x y e = e

any-bound : (o : Option ℕ) → IfSome o (λ most. 0 ≤ most)
any-bound (Some most) = omega arith
any-bound _ = tt

none-wanted : (n : ℕ) (w : Window) → (n ≡ 0) ⊎ IsSpent w → wanted n w ≡ Some 0
none-wanted n w h =
    ⊎_elim (λ e. rw e refl) (λ s. either (n == 0) (Some 0) (spanned w.skip w.limit) (ap (spanned w.skip) s)) h

-- no row is wanted
pub prints-nothing : (t : CompactSheet) (w : Window) (comes : List (List (List ℕ)) → Bool → Type 0) (a : Sent) → comes [] false
    → (t.count ≡ 0) ⊎ IsSpent w → IsPrinted (record { sheet = t; window = w; comes = comes }) a a
prints-nothing t w comes a came h =
    let none : shown_rows t.count w [] ≡ [] = either (t.count == 0) [] (in_window w []) (window-none w [] (omega arith)) in
    record {
      rows = [];
      whole = false;
      came = came;
      taken = any-bound (wanted t.count w);
      enough = inr (none-wanted t.count w h);
      printable = inl none;
      sends = nothing-sent t (shown_rows t.count w []) a none;
    }

has-columns : (n : ℕ) → (n ≡ 0 → ⊥) → (n == 0) ≡ false
has-columns n h = grind (arith, nat_tests)

lines-split : (t : CompactSheet) (rows : List (List (List ℕ))) → compact_lines t rows ≡ rows_lines t rows ++ (if has_rows rows then tail_lines t else [])
unfolding compact_lines rows_lines
lines-split t [] = refl
lines-split t (row ∷ rows) = refl

-- a table with a column
module _ (t : CompactSheet) (w : Window) (comes : List (List (List ℕ)) → Bool → Type 0) (old : Sent) (some : t.count ≡ 0 → ⊥)
    (rows : List (List (List ℕ))) (whole : Bool) (came : comes rows whole) where
  -- the rows in the window are shown, and those that it spans wanted
  all-shown : shown_rows t.count w rows ≡ in_window w rows
  all-shown = rw (has-columns t.count some) refl

  all-wanted : wanted t.count w ≡ spanned w.skip w.limit
  all-wanted = rw (has-columns t.count some) refl

  are-wanted : IfSome (spanned w.skip w.limit) (λ most. length rows ≤ most) → AreWanted t.count w rows
  are-wanted h = let P : Option ℕ → Type 0 = λ k. IfSome k (λ most. length rows ≤ most) in subst P (sym all-wanted) h

  are-enough : (whole ≡ true) ⊎ (spanned w.skip w.limit ≡ Some (length rows)) → AreEnough t.count w rows whole
  are-enough h = let P : Option ℕ → Type 0 = λ k. (whole ≡ true) ⊎ (k ≡ Some (length rows)) in subst P (sym all-wanted) h

  -- the sink refused in the rows
  pub prints-stopped : {T U : Type 0} (r : Result T TableError) (e : TableError) (new : Sent) (b : Bool) → IsPrintableCompact t
      → PutsRows {T = U} t w old (Err e) new b rows whole → IsErrAnd r (λ d. d ≡ e)
      → PrintsCompact (record { sheet = t; window = w; comes = comes }) old r new
  prints-stopped (Ok x) e new b fine put i = absurd i
  prints-stopped (Err d) e new b fine put i =
      let P : Bool → TableError → Type 0 = λ none k. StopsInRow (λ rs. rows_text t (if none then [] else in_window w rs)) rows old k new in
      let stops = subst (λ none. P none d) (sym (has-columns t.count some)) (subst (P false) (sym i) put.lines) in
      record {
        rows = rows;
        whole = whole;
        came = came;
        taken = are-wanted put.taken;
        filled = ap has_rows all-shown ∙ put.filled;
        ends = inr (record { printable = fine; stops = inl stops });
      }

  ended : {T U : Type 0} (r : Result T TableError) (x : U) (mid : Sent) (m : Bool) (new : Sent) (n : Bool) → IsPrintableCompact t
      → PutsRows {T = U} t w old (Ok x) mid m rows whole → WritesLines mid m r new n (if m then tail_lines t else [])
      → OnErr r (m ≡ true) → m ≡ has_rows (in_window w rows)
      → compact_lines t (in_window w rows) ≡ rows_lines t (in_window w rows) ++ (if m then tail_lines t else [])
      → PrintsCompact (record { sheet = t; window = w; comes = comes }) old r new
  ended (Ok y) x mid m new n fine put ends failed any all = record {
    rows = rows;
    whole = whole;
    came = came;
    taken = are-wanted put.taken;
    enough = are-enough put.enough;
    printable = inr fine;
    sends = sends-along old new _ _
        (lines-text {T = Unit {0}} old new n (Ok tt) (compact_lines t (in_window w rows)) (lines-further put.lines ends all))
        (ap (compact_text t) (sym all-shown));
  }
  ended (Err d) x mid m new n fine put ends failed any all =
      let P : List (List (List ℕ)) → Type 0 = λ rs. StopsBelow (rows_text t rs) old d new (compact_text t rs) in
      let lines = compact_lines t (in_window w rows) in
      let stops = joined-below (rows_lines t (in_window w rows)) lines (lines-below lines put.lines ends all) in
      record {
        rows = rows;
        whole = whole;
        came = came;
        taken = are-wanted put.taken;
        filled = ap has_rows all-shown ∙ sym any ∙ failed;
        ends = inr (record {
          printable = fine;
          stops = inr (record { enough = are-enough put.enough; stops = subst P (sym all-shown) stops });
        });
      }

  -- the rows were put, and then what stands below them
  pub prints-ended : {T U : Type 0} (r : Result T TableError) (x : U) (mid : Sent) (m : Bool) (new : Sent) (n : Bool) → IsPrintableCompact t
      → PutsRows {T = U} t w old (Ok x) mid m rows whole → WritesLines mid m r new n (if m then tail_lines t else [])
      → OnErr r (m ≡ true) → PrintsCompact (record { sheet = t; window = w; comes = comes }) old r new
  prints-ended r x mid m new n fine put ends failed =
      let any : m ≡ has_rows (in_window w rows) = put.lines.after ∙ begun-rows t (in_window w rows) in
      ended r x mid m new n fine put ends failed any
      (lines-split t (in_window w rows) ∙ ap (λ b. rows_lines t (in_window w rows) ++ (if b then tail_lines t else [])) (sym any))

  -- the table can't be printed
  pub prints-refused : {T : Type 0} (error : TableError) (r : Result T TableError)
      → MatchResult r (λ _. (length rows ≤ w.skip) × (whole ≡ true)) (λ e. (length rows ≡ w.skip + 1) × (e ≡ error))
      → (IsSpent w → ⊥) → FailsToPrintCompact t error → PrintsCompact (record { sheet = t; window = w; comes = comes }) old r old
  prints-refused error (Ok x) found still cause =
      let none = all-shown ∙ window-none w rows found.0 in
      let few = found.0 in
      record {
        rows = rows;
        whole = whole;
        came = came;
        taken = are-wanted (window-wanted w (length rows) still (omega (arith, few)));
        enough = inl found.1;
        printable = inl none;
        sends = nothing-sent t (shown_rows t.count w rows) old none;
      }
  prints-refused error (Err d) found still cause =
      let R : TableError → Type 0 = λ k. FailsToPrintCompact t k in
      let first = found.0 in
      record {
        rows = rows;
        whole = whole;
        came = came;
        taken = are-wanted (window-wanted w (length rows) still (omega (arith, first)));
        filled = ap has_rows all-shown ∙ window-one w rows still found.0;
        ends = inl (record { first = found.0; cause = subst R (sym found.1) cause; same = refl });
      }
