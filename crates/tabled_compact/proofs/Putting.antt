-- The rows that were put so far, and one more.
use Rattle.tabled_compact.proofs.Names.{Bool, CompactSheet, Err, IfSome, IsErrAnd, IsSpent, List, Ok, PutsRows, Result, Sent, Some}
use Rattle.tabled_compact.proofs.Names.{TableError, Window, [], ap, arith, false, has_rows, if◌then◌else◌, in_window, inl, inr}
use Rattle.tabled_compact.proofs.Names.{length, length-append, refl, row_part, rows_lines, spanned, subst, sym, true, window_after, ℕ, ◌++◌}
use Rattle.tabled_compact.proofs.Names.{◌+◌, ◌==◌, ◌∙◌, ◌∷◌, ◌≡◌, ◌≤◌}
use Rattle.std.proofs.lemmas.Option.{IfSome_then}
use Rattle.tabled_line.specs.Leading.{LineSends, LineStops}
use Rattle.tabled_line.specs.StopsBelow.{StopsBelow}
use Rattle.tabled_line.proofs.Below.{joined-below, lines-below}
use Rattle.tabled_line.proofs.Leading.{lines-further, lines-none}
use Rattle.tabled_compact.specs.CompactLines.{rows_text}
use Rattle.tabled_compact.proofs.RowPieces.{begun-rows, has_rows-more, rows_lines-more}
use Rattle.tabled_compact.proofs.Windows.{IsOpen, first-more, spent, within, window-none, window-start, window-step}

-- the rows so far went out, and this is left of the window
pub record HavePut (t : CompactSheet) (w : Window) (old new : Sent) (begun : Bool) (left : Window) (rows : List (List (List ℕ))) : Type 0 where
  pub lines : LineSends old false new begun (rows_lines t (in_window w rows))
  pub after : left ≡ window_after w (length rows)

-- of the next row
abbrev pub part : CompactSheet → Window → Bool → List (List ℕ) → List (List ℕ)
part t left begun row = if left.skip == 0 then row_part t begun row else []

longer : (rows : List (List (List ℕ))) (row : List (List ℕ)) → length (rows ++ row ∷ []) ≡ length rows + 1
longer rows row = length-append rows (row ∷ [])

still-open : (w : Window) (n : ℕ) (left : Window) → left ≡ window_after w n → (IsSpent left → ⊥) → IsOpen w n
still-open w n left after still h = let P : Window → Type 0 = λ v. IsSpent v in still (subst P (sym after) h)

-- no row so far
pub have-none : (t : CompactSheet) (w : Window) (old : Sent) (begun : Bool) → begun ≡ false → HavePut t w old old begun w []
unfolding rows_lines
have-none t w old begun e =
    let none : in_window w [] ≡ [] = window-none w [] (omega arith) in
    let P : Bool → List (List (List ℕ)) → Type 0 = λ b rs. LineSends old false old b (rows_lines t rs) in
    record {
      lines = subst (λ b. P b (in_window w [])) (sym e) (subst (P false) (sym none) (lines-none old false));
      after = sym (window-start w);
    }

module _ {t : CompactSheet} {w : Window} {old mid : Sent} {m : Bool} {left : Window} {rows : List (List (List ℕ))}
    (put : HavePut t w old mid m left rows) (still : IsSpent left → ⊥) where
  -- which rows are shown once one more came
  shown-more : (row : List (List ℕ)) → in_window w (rows ++ row ∷ []) ≡ in_window w rows ++ (if left.skip == 0 then row ∷ [] else [])
  shown-more row =
      first-more w.limit w.skip rows row left.skip (ap (λ v. v.skip) put.after) (still-open w (length rows) left put.after still)

  -- and their lines
  lines-more : (row : List (List ℕ)) → rows_lines t (in_window w (rows ++ row ∷ [])) ≡ rows_lines t (in_window w rows) ++ part t left m row
  lines-more row =
      ap (rows_lines t) (shown-more row) ∙ rows_lines-more t (in_window w rows) row left.skip
      ∙ ap (λ b. rows_lines t (in_window w rows) ++ (if left.skip == 0 then row_part t b row else []))
      (sym (put.lines.after ∙ begun-rows t (in_window w rows)))

  -- one row more
  pub have-more : (new : Sent) (n : Bool) (left' : Window) (row : List (List ℕ)) → LineSends mid m new n (part t left m row)
      → left' ≡ window_after left 1 → HavePut t w old new n left' (rows ++ row ∷ [])
  have-more new n left' row sends next = record {
    lines = lines-further put.lines sends (lines-more row);
    after = next ∙ ap (λ v. window_after v 1) put.after ∙ window-step w (length rows) ∙ ap (window_after w) (sym (longer rows row));
  }

  module _ (wanted : IsSpent w → ⊥) where
    open' : IsOpen w (length rows)
    open' = still-open w (length rows) left put.after still

    -- all rows came
    pub have-all : {T : Type 0} (x : T) → PutsRows {T = T} t w old (Ok x) mid m rows true
    have-all x = record {
      taken = IfSome_then (spanned w.skip w.limit) (within w.limit w.skip (length rows) wanted open') (λ most l. omega arith);
      enough = inl refl;
      filled = tt;
      lines = put.lines;
    }

    one-taken : (row : List (List ℕ)) → IfSome (spanned w.skip w.limit) (λ most. length (rows ++ row ∷ []) ≤ most)
    one-taken row =
        let long = longer rows row in
        IfSome_then (spanned w.skip w.limit) (within w.limit w.skip (length rows) wanted open') (λ most l. omega arith)

    -- as many came as are wanted
    pub have-enough : {T : Type 0} (x : T) (new : Sent) (n : Bool) (left' : Window) (row : List (List ℕ)) → LineSends mid m new n (part t left m row)
        → left' ≡ window_after left 1 → IsSpent left' → PutsRows {T = T} t w old (Ok x) new n (rows ++ row ∷ []) false
    have-enough x new n left' row sends next now =
        let more = have-more new n left' row sends next in
        let P : Window → Type 0 = λ v. IsSpent v in
        let end = subst P (next ∙ ap (λ v. window_after v 1) put.after ∙ window-step w (length rows)) now in
        record {
          taken = one-taken row;
          enough = inr (spent w.limit w.skip (length rows) wanted open' end ∙ ap Some (sym (longer rows row)));
          filled = tt;
          lines = more.lines;
        }

    -- the sink refused a part of a row
    pub have-stopped : {T : Type 0} (r : Result T TableError) (e : TableError) (new : Sent) (n : Bool) (row : List (List ℕ))
        → LineStops mid m e new (part t left m row) → (left.skip == 0) ≡ true → IsErrAnd r (λ d. d ≡ e)
        → PutsRows t w old r new n (rows ++ row ∷ []) false
    have-stopped (Ok x) e new n row stops shown i = absurd i
    have-stopped (Err d) e new n row stops shown i =
        let all = rows_lines t (in_window w (rows ++ row ∷ [])) in
        let P : TableError → Type 0 = λ k. StopsBelow (rows_text t (in_window w rows)) old k new (rows_text t (in_window w (rows ++ row ∷ []))) in
        record {
          taken = one-taken row;
          enough = tt;
          filled = ap has_rows (shown-more row ∙ ap (λ b. in_window w rows ++ (if b then row ∷ [] else [])) shown) ∙ has_rows-more (in_window w rows) row;
          lines =
              record {
                before = rows;
                last = row;
                parts = refl;
                stops = subst P (sym i) (joined-below (rows_lines t (in_window w rows)) all (lines-below all put.lines stops (lines-more row)));
              };
        }
