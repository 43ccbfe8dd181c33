-- What a call that prints the table of a plan leaves: of no rows, of new tables, and of those that an order fitted.
use Rattle.tabled.proofs.Names.{AreChanged, AreTexts, Bool, BreaksOff, Buffered, Cells, Err, FitsInto, Halts, HasExactTotal, Holds}
use Rattle.tabled.proofs.Names.{IsBestOf, IsBestPlanned, IsCause, IsErrAnd, IsInside, IsReadyOf, IsNarrowedTo, IsPlanned, IsPlannedOf}
use Rattle.tabled.proofs.Names.{IsRectangular, IsRendered, IsRenderedOf, List, MatchBool-at_false, MatchBool-at_true, Memory, Narrow, Ok}
use Rattle.tabled.proofs.Names.{Plan, Prints, Range, Result, Sent, Sheet, ShortHeights, ShortWidths, SpannedConfig, StaysWithin-none}
use Rattle.tabled.proofs.Names.{TableError, Writer, [], ap, arith, cases_Bool, changed_empty, columns, content_width, estimated, false}
use Rattle.tabled.proofs.Names.{for_content_size}
use Rattle.tabled.proofs.Names.{holds_estimated, inl, inr, is_empty, length, nat_le, new_sheet, picture, refl, picture_lines, apart_columns}
use Rattle.tabled.proofs.Names.{sized_estimated, subst, sym, total_width, true, ℕ, ⊎_elim, ◌<◌, ◌==◌, ◌∙◌, ◌≡◌, ◌⊎◌}
use Rattle.std.specs.Prelude.{IfErr}
use Rattle.std.proofs.lemmas.Bool.{eqb-true, or_cases, leb-false}
use Rattle.tabled_table.proofs.NewTables.{new_apart}
use Rattle.tabled.specs.Headline.{KeepsApart}
use Rattle.tabled.specs.Rendered.{PassesRange, PrintsPlanned}
use Rattle.tabled_set.proofs.ChangingCells.{columns-changed}
use Rattle.std.proofs.lemmas.List.{get_or_default}
use Rattle.tabled_grid.specs.ApartSheet.{IsApartConfig}
use Rattle.tabled_grid.specs.Printed.{FailsToPrint}
use Rattle.tabled_line.specs.Additive.{EachLineTakes}
use Rattle.tabled_set.specs.Promised.{IsWiderThan}
use Rattle.tabled_size.specs.Holds.{IsSized}
use Rattle.tabled_text.specs.Plain.{IsAdditive}
use Rattle.tabled_text.proofs.StayLemmas.{IsAdditive-stays}

-- ---- what holds of the table that a plan makes of the cells of a text

pub changed_rectangular : {chosen : ℕ → ℕ → Bool} {change : ℕ → ℕ → List ℕ → List ℕ → Type 0} {old new : Cells}
    → AreChanged chosen change old new → IsRectangular old → IsRectangular new
changed_rectangular {new = new} h q = λ k d l.
    let rows = h.rows in
    let many = columns-changed h in
    ap length (get_or_default new k d [] l) ∙ h.row_lengths k ∙ q k [] (omega arith) ∙ sym many

-- ---- tables that are fitted into n columns

-- each line of a table with estimated sizes takes the total width, where texts are kept apart
pub whole_lines : (cells : Cells) (config : SpannedConfig) → IsRectangular cells → AreTexts cells → KeepsApart config
    → EachLineTakes (total_width (estimated cells config)) (picture (estimated cells config))
whole_lines cells config rectangular texts apart =
    apart_columns (estimated cells config) (apart (length cells) (columns cells)) texts rectangular (holds_estimated cells config)

module _ (shrinks : List ℕ → List ℕ → ℕ → List ℕ → Type 0) (change : ℕ → List ℕ → List ℕ → Type 0) (n : ℕ) (cells : Cells) (config : SpannedConfig) (t : Sheet)
    (fits : FitsInto shrinks change n (estimated cells config) t) (exact : n < total_width (estimated cells config) → HasExactTotal n (estimated cells config) t) where
  -- of the new table and of a narrowed one
  either : (Q : Sheet → Type 0) → Q (estimated cells config) → (IsNarrowedTo shrinks change n (estimated cells config) t → HasExactTotal n (estimated cells config) t → Q t) → Q t
  either Q same small =
      let old = estimated cells config in
      ⊎_elim
      (λ y. subst Q (sym (MatchBool-at_true (t ≡ old) (IsNarrowedTo shrinks change n old t) y fits)) same)
      (λ no. small (MatchBool-at_false (t ≡ old) (IsNarrowedTo shrinks change n old t) no fits) (exact (leb-false (total_width old) n no)))
      (cases_Bool (nat_le (total_width old) n))

  pub fitted_sized : IsSized t
  fitted_sized = either IsSized (sized_estimated cells config) (λ s e. e.sized)

  pub fitted_holds : Holds t
  fitted_holds = either Holds (holds_estimated cells config) (λ s e. e.holds)

  pub fitted_empty : is_empty t.cells ≡ is_empty cells
  fitted_empty =
      either (λ (u : Sheet). is_empty u.cells ≡ is_empty cells) refl
      (λ s e. changed_empty (λ row column. true) (for_content_size change (content_width (estimated cells config) t.widths))
      cells t.cells s.cells)

  -- each line takes the total width, where texts are kept apart
  pub fitted_lines : IsRectangular cells → AreTexts cells → KeepsApart config → EachLineTakes (total_width t) (picture t)
  fitted_lines rectangular texts apart =
      either (λ (u : Sheet). EachLineTakes (total_width u) (picture u)) (whole_lines cells config rectangular texts apart)
      (λ s e.
      apart_columns t
      (subst (λ c. IsApartConfig c (length t.cells) (columns t.cells)) (sym s.config) (apart (length t.cells) (columns t.cells)))
      e.texts (changed_rectangular s.cells rectangular) e.holds)

-- the empty text is plain
pub no_text_plain : IsAdditive []
no_text_plain = IsAdditive-stays (StaysWithin-none {n = 0})

-- ---- the plans

pub whole_wider : (n : ℕ) (cells : Cells) (config : SpannedConfig) → n < total_width (estimated cells config) → IsWiderThan n (estimated cells config)
whole_wider n cells config h = record { estimates = refl; wider = h }

pub buffered_made : (cells : Cells) (config : SpannedConfig) → IsRectangular cells → AreTexts cells → IsReadyOf Buffered (estimated cells config) (estimated cells config)
buffered_made cells config rectangular texts = record {
  planned = refl;
  best = record {
    edges = whole_lines cells config rectangular texts;
    lines = picture_lines (estimated cells config);
    total = tt;
    least = tt;
    fewest = tt;
    longest = tt;
    alike = tt;
  };
  same = refl;
  sized = sized_estimated cells config;
  holds = holds_estimated cells config;
}

-- ---- what was printed

-- a table that is in order was printed
pub prints_made : {T : Type 0} (plan : Plan) (whole : Sheet) (estimates : Bool) (t : Sheet) (old : Sent) (r : Result T TableError) (new : Sent) → IsReadyOf plan whole t
    → Prints estimates t old r new → IsRenderedOf plan whole old r new
prints_made plan whole estimates t old (Ok x) new m h = record { table = t; is_planned = m.planned; is_best = m.best; is_printable = h.0; sends = h.1 }
prints_made plan whole estimates t old (Err e) new m h =
    ⊎_elim (λ r. refused e r.0 r.1)
    (λ o. ⊎_elim (λ k. inl (k.1, k.2)) (λ k. inr (
      sym m.same ∙ h.0,
      inr (record {
        table = t;
        is_planned = m.planned;
        is_best = m.best;
        is_printable = k.0;
        front = k.1.front;
        rest = k.1.rest;
        whole = k.1.whole;
        added = k.1.added;
        cause = inl k.1.cause;
      }),
    )) o)
    h.1
  where
    refused : (d : TableError) → FailsToPrint t d → new ≡ old
        → ((d ≡ Memory) × (new ≡ old))
        ⊎ ((is_empty whole.cells ≡ false)
        × (((d ≡ Range) × (new ≡ old) × PassesRange (IsPlannedOf plan whole) whole) ⊎ BreaksOff (IsPlannedOf plan whole) (IsBestOf plan whole) (λ e. ⊥) old d new))
    refused ShortWidths i stays = absurd (let sized = m.sized in let long = sized.columns in omega arith)
    refused ShortHeights i stays = absurd (let sized = m.sized in let long = sized.rows in omega arith)
    refused (Narrow row column) i stays =
        let first = i.1 in
        let held = m.holds row column first.row_in first.at.column_in in
        absurd (let narrow = first.at.narrow in omega arith)
    refused Range i stays = inr (sym m.same ∙ h.0, inl (refl, stays, inr (t, m.planned, i.2)))
    refused _ i stays = absurd i

-- what is told by one plan is told by another that asks no more
pub prints_as : {T : Type 0} (planned best planned' best' : Sheet → Type 0) (halts halts' : TableError → Type 0) (whole : Sheet) (old : Sent)
    (r : Result T TableError) (new : Sent) → ((t : Sheet) → planned t → planned' t) → ((t : Sheet) → planned t → best t → best' t)
    → ((e : TableError) → halts e → halts' e)
    → PrintsPlanned (record { planned = planned; best = best; halts = halts; whole = whole }) old r new
    → PrintsPlanned (record { planned = planned'; best = best'; halts = halts'; whole = whole }) old r new
prints_as planned best planned' best' halts halts' whole old (Ok x) new gives good stops h =
    record {
      table = h.table;
      is_planned = gives h.table h.is_planned;
      is_best = good h.table h.is_planned h.is_best;
      is_printable = h.is_printable;
      sends = h.sends;
    }
prints_as planned best planned' best' halts halts' whole old (Err e) new gives good stops h =
    ⊎_elim (λ m. inl m)
    (λ k. ⊎_elim
    (λ r. inr (k.0, inl (r.0, r.1, ⊎_elim (λ o. inl o) (λ o. inr (o.0, gives o.0 o.1, o.2)) r.2)))
    (λ b. inr (
      k.0,
      inr (record {
        table = b.table;
        is_planned = gives b.table b.is_planned;
        is_best = good b.table b.is_planned b.is_best;
        is_printable = b.is_printable;
        front = b.front;
        rest = b.rest;
        whole = b.whole;
        added = b.added;
        cause = ⊎_elim (λ c. inl c) (λ c. inr (stops e c)) b.cause;
      }),
    ))
    k.1)
    h

-- ---- texts without a row

pub no_place : (cells : Cells) → is_empty cells ≡ true → (row column : ℕ) → IsInside cells row column → ⊥
no_place cells e row column inside =
    let r = inside.row_in in
    let c = inside.column_in in
    ⊎_elim (λ y. let z = eqb-true (length cells) 0 y in omega arith) (λ y. let z = eqb-true (columns cells) 0 y in omega arith)
    (or_cases (length cells == 0) (columns cells == 0) e)

-- ---- new tables

-- what is told of a whole table is told of the new one, whose settings keep texts apart
pub best_new : (plan : Plan) (cells : Cells) (t : Sheet) → IsBestOf plan (new_sheet cells) t → IsBestPlanned plan cells t
best_new plan cells t b = record { edges = b.edges new_apart; best = b }

pub rendered_new : {T : Type 0} (plan : Plan) (cells : Cells) (old : Sent) (r : Result T TableError) (new : Sent)
    → IsRenderedOf plan (new_sheet cells) old r new → IsRendered plan cells old r new
rendered_new plan cells old r new h =
    prints_as (IsPlannedOf plan (new_sheet cells)) (IsBestOf plan (new_sheet cells)) (IsPlanned plan cells) (IsBestPlanned plan cells) (λ e. ⊥) (Halts plan)
    (new_sheet cells) old r new (λ t p. p) (λ t p b. best_new plan cells t b) (λ e never. absurd never) h

-- ---- what is refused

cause_only : (e : TableError) (grows : Bool) (a b : ℕ) → IsCause e grows a b → (e ≡ Memory) ⊎ ((e ≡ Range) ⊎ (e ≡ Writer))
cause_only Memory grows a b h = inl refl
cause_only Writer grows a b h = inr (inr refl)
cause_only _ grows a b h = absurd h

-- only memory, a range that is passed, and a writer are refused
only_printed : {T : Type 0} (planned best : Sheet → Type 0) (halts : TableError → Type 0) (whole : Sheet) (old : Sent) (r : Result T TableError) (new : Sent)
    → ((e : TableError) → halts e → e ≡ Memory)
    → PrintsPlanned (record { planned = planned; best = best; halts = halts; whole = whole }) old r new
    → IfErr r (λ e. (e ≡ Memory) ⊎ ((e ≡ Range) ⊎ (e ≡ Writer)))
only_printed planned best halts whole old (Ok x) new stops h = tt
only_printed planned best halts whole old (Err e) new stops h =
    ⊎_elim (λ m. inl m.0)
    (λ k. ⊎_elim (λ r. inr (inl r.0)) (λ b. ⊎_elim (cause_only e old.grows old.failures new.failures) (λ c. inl (stops e c)) b.cause) k.1) h

pub only_rendered : {T : Type 0} (plan : Plan) (cells : Cells) (old : Sent) (r : Result T TableError) (new : Sent) → IsRendered plan cells old r new
    → IfErr r (λ e. (e ≡ Memory) ⊎ ((e ≡ Range) ⊎ (e ≡ Writer)))
only_rendered plan cells old r new h =
    only_printed (IsPlanned plan cells) (IsBestPlanned plan cells) (Halts plan) (new_sheet cells) old r new (λ e c. c.1) h

-- a refusal before anything was sent
pub refused_early : {T : Type 0} (planned best : Sheet → Type 0) (halts : TableError → Type 0) (whole : Sheet) (old : Sent) (r : Result T TableError) (e : TableError)
    → IsErrAnd r (λ d. d ≡ e) → (e ≡ Memory) ⊎ (e ≡ Range) → (e ≡ Range → (is_empty whole.cells ≡ false) × PassesRange planned whole)
    → PrintsPlanned (record { planned = planned; best = best; halts = halts; whole = whole }) old r old
refused_early planned best halts whole old (Ok x) e i c f = absurd i
refused_early planned best halts whole old (Err d) e i c f = ⊎_elim (λ m. inl (i ∙ m, refl)) (λ r. let k = f r in inr (k.0, inl (i ∙ r, refl, k.1))) c

pub range_only : {T Q : Type 0} (r : Result T TableError) (e : TableError) → IsErrAnd r (λ d. d ≡ e) → (e ≡ Range → Q) → IfErr r (λ d. d ≡ Range → Q)
range_only (Ok x) e i f = tt
range_only (Err d) e i f = λ k. f (sym i ∙ k)
