-- New tables that an option fitted into some columns, by the sizes that it leaves.
use Rattle.tabled.proofs.Names.{AreChanged, AreCleared, AreTexts, Bool, Cells, CompleteDimension, Cut, FitsInto, Greatest, HasExactTotal}
use Rattle.tabled.proofs.Names.{HasFewestBreaks, HasLeastGreatestWidth, HasLongestBeginnings, HasNoEstimate, HasWantedTotal, IsAsBuffered}
use Rattle.tabled.proofs.Names.{IsFilledIn, IsLeastBy, IsReadyOf, IsNarrowedTo, IsOutOfRange, IsPlannedOf, IsRectangular, List, MatchBool}
use Rattle.tabled.proofs.Names.{MatchBool-at_false, MatchBool-at_true, Narrows, None, Option, Order, OrderShrinks, Plan, Row, Sheet}
use Rattle.tabled.proofs.Names.{Shortened, Shrinks, Some, SpannedConfig, StaysWithin-none, TruncatesAsPromised, Wrapped, WrapsAsPromised}
use Rattle.tabled.proofs.Names.{[], ap, arith, cases_Bool, columns, cond, content_width, effective, effective_estimated}
use Rattle.tabled.proofs.Names.{effective_sizes, estimated}
use Rattle.tabled.proofs.Names.{estimated_heights, estimated_widths, false, filled_width, for_content_size, heights_length, heights_of}
use Rattle.tabled.proofs.Names.{if_wider, inl, is_empty, le-leb, length, nat_le, passes_too_high, passes_too_wide, refl, picture_lines}
use Rattle.tabled.proofs.Names.{subst, sym, take, text_columns, total_width, true, truncating, unwrap_or, widths_length, widths_of}
use Rattle.tabled.proofs.Names.{wrapping, ℕ, ⊎_elim, ◌-◌, ◌<◌, ◌^◌, ◌∙◌, ◌≡◌, ◌≤◌}
use Rattle.std.proofs.Math.Seq.{take-length}
use Rattle.tabled_base.specs.declared.position.Entity.{Entity}
use Rattle.tabled_set.specs.Minimums.{emptied, minimums}
use Rattle.tabled_set.specs.Narrowed.{IsNarrowed, NarrowingOutOfRange}
use Rattle.tabled_set.specs.Priorities.{TakesFrom, TakesGreatest, shrinking_to}
use Rattle.tabled_set.specs.SizedTable.{sized_table}
use Rattle.tabled_set.proofs.Emptied.{emptied-cell, emptied-columns, emptied-rows, minimums-length}
use Rattle.tabled_set.proofs.ExactTotals.{new_widths}
use Rattle.tabled_size.specs.Entries.{clears_heights, clears_widths, unless_cleared}
use Rattle.tabled_size.specs.Estimates.{IsTooWide}
use Rattle.tabled_text.proofs.StayLemmas.{text_columns-stays}
use Rattle.tabled.specs.Orders.{Shrinks-takes, IsShrunk}
use Rattle.tabled.specs.declared.arguments.OrderPriority.{OrderPriority}
use Rattle.tabled_set.specs.BestNarrowing.{HasLeastWidth}
use Rattle.tabled.proofs.RenderedTables.{fitted_empty, fitted_holds, fitted_lines, fitted_sized, no_text_plain, whole_wider}

pub takes_all : (s : OrderPriority) → TakesFrom Shrinks s
takes_all s last old mins new by h = Shrinks-takes s last old mins new by h

-- a priority that begins does what its order does
in_order : (s : OrderPriority) → s.round.kept ≡ 0 → (last : OrderPriority) (old mins : List ℕ) (by : ℕ) (new : List ℕ) → Shrinks s old mins by new last
    → OrderShrinks s.order old mins by new
in_order s begins last old mins by new h = (
  last.round.kept,
  subst (λ k. IsShrunk s.order k (record { old = old; mins = mins; by = by; new = new }) last.round.kept) begins h.0,
)

cleared_none : (b : Bool) → unless_cleared b None ≡ None
cleared_none true = refl
cleared_none false = refl

-- ---- the sizes of a table that stays as it is

abbrev pub sized_by : Cells → SpannedConfig → List ℕ → List ℕ → Sheet
sized_by cells config widths heights = record { cells = cells; config = config; widths = widths; heights = heights }

pub whole_list : (xs : List ℕ) (count : ℕ) → length xs ≡ count → take count xs ≡ xs
whole_list xs count e = ap (λ k. take k xs) (sym e) ∙ take-length xs

-- a list that was filled in stands, whether it was cleared then or not
filled_stands : (b : Bool) (xs : List ℕ) (count : ℕ) → length xs ≡ count → effective_sizes (unless_cleared b (Some xs)) xs count ≡ xs
filled_stands true xs count e = refl
filled_stands false xs count e = whole_list xs count e

-- ---- what an option leaves
module _ (s : OrderPriority) (begins : s.round.kept ≡ 0) (change : ℕ → List ℕ → List ℕ → Type 0) (n : ℕ)
    (cells new : Cells) (config : SpannedConfig) (none left last : CompleteDimension) (hint : Option Entity) (no_widths : widths_of none ≡ None) (no_heights : heights_of none ≡ None)
    (hinted : clears_widths hint ≡ false) (narrows : Narrows (shrinking_to Shrinks s n) change (sized_table cells config none) new left)
    (cleared : AreCleared hint left last) where
  before_is : effective cells config none ≡ estimated cells config
  before_is = effective_estimated cells config none no_widths no_heights

  widths_last : widths_of last ≡ widths_of left
  widths_last = cleared.widths ∙ ap (λ b. unless_cleared b (widths_of left)) hinted

  -- nothing was stored
  unmeasured : new ≡ cells → left ≡ none → effective new config last ≡ estimated cells config
  unmeasured e f =
      ap (λ c. effective c config last) e
      ∙ effective_estimated cells config last (widths_last ∙ ap widths_of f ∙ no_widths)
      (cleared.heights ∙ ap (unless_cleared (clears_heights hint)) (ap heights_of f ∙ no_heights) ∙ cleared_none (clears_heights hint))

  -- the estimates were stored
  measured : new ≡ cells → IsFilledIn none cells config left → effective new config last ≡ estimated cells config
  measured e f =
      let wide = estimated_widths cells config in
      let high = estimated_heights cells config in
      let widths : effective_sizes (widths_of last) wide (columns cells) ≡ wide =
      ap (λ o. effective_sizes o wide (columns cells)) (widths_last ∙ f.widths ∙ ap (λ o. Some (unwrap_or o wide)) no_widths)
      ∙ whole_list wide (columns cells) (widths_length cells config) in
      let heights : effective_sizes (heights_of last) high (length cells) ≡ high =
      ap (λ o. effective_sizes o high (length cells))
      (cleared.heights ∙ ap (unless_cleared (clears_heights hint)) (f.heights ∙ ap (λ o. Some (unwrap_or o high)) no_heights))
      ∙ filled_stands (clears_heights hint) high (length cells) (heights_length cells config) in
      ap (λ c. effective c config last) e
      ∙ ap (λ w. sized_by cells config w (effective_sizes (heights_of last) high (length cells))) widths ∙ ap (λ h. sized_by cells config wide h) heights

  narrowed_to : IsNarrowed (shrinking_to Shrinks s n) change (effective cells config none) new left
      → IsNarrowedTo (OrderShrinks s.order) change n (estimated cells config) (effective new config last)
  narrowed_to h =
      let t = effective cells config none in
      let mins = minimums cells config in
      let estimates : t.widths ≡ estimated_widths cells config = ap (λ (u : Sheet). u.widths) before_is in
      let stored : (effective new config last).widths ≡ h.widths =
      new_widths Shrinks s change n cells config none new left last (takes_all s) estimates h widths_last in
      let whole : take (length t.widths) mins ≡ mins =
      whole_list mins (length t.widths) (minimums-length cells config ∙ sym (ap length estimates ∙ widths_length cells config)) in
      let by_minimums : Shrinks s t.widths mins (total_width t - n) h.widths h.shrunk.last =
      subst (λ m. Shrinks s t.widths m (total_width t - n) h.widths h.shrunk.last) whole h.shrunk.shrunk in
      let shrunk : Shrinks s (estimated cells config).widths mins (total_width (estimated cells config) - n) h.widths h.shrunk.last =
      subst (λ (u : Sheet). Shrinks s u.widths mins (total_width u - n) h.widths h.shrunk.last) before_is by_minimums in
      let by = total_width (estimated cells config) - n in
      record {
        config = refl;
        widths = in_order s begins h.shrunk.last _ mins by _ (subst (λ w. Shrinks s (estimated cells config).widths mins by w h.shrunk.last) (sym stored) shrunk);
        cells =
            subst (λ w. AreChanged (λ row column. true) (for_content_size change (content_width (estimated cells config) w)) cells new)
            (sym stored) h.changed;
        heights = ap (λ o. effective_sizes o (estimated_heights new config) (length new))
            (cleared.heights ∙ ap (unless_cleared (clears_heights hint)) h.cleared ∙ cleared_none (clears_heights hint));
      }

  abbrev Same : Type 0
  Same = effective new config last ≡ estimated cells config

  abbrev Smaller : Type 0
  Smaller = IsNarrowedTo (OrderShrinks s.order) change n (estimated cells config) (effective new config last)

  abbrev Filled : Type 0
  Filled = (new ≡ cells) × IsFilledIn none cells config left

  abbrev Narrowed : Type 0
  Narrowed = IsNarrowed (shrinking_to Shrinks s n) change (effective cells config none) new left

  empty_fits : is_empty cells ≡ true → MatchBool (nat_le (total_width (estimated cells config)) n) Same Smaller
  empty_fits e =
      let stays = MatchBool-at_true ((new ≡ cells) × (left ≡ none)) (MatchBool (nat_le (total_width (effective cells config none)) n) Filled Narrowed) e narrows in
      let zero : total_width (estimated cells config) ≡ 0 =
      ap (λ b. cond b 0 (filled_width config (columns cells) (estimated_widths cells config))) e in
      let fits : nat_le (total_width (estimated cells config)) n ≡ true = le-leb (total_width (estimated cells config)) n (omega arith) in
      subst (λ b. MatchBool b Same Smaller) (sym fits) (unmeasured stays.0 stays.1)

  full_fits : is_empty cells ≡ false → MatchBool (nat_le (total_width (estimated cells config)) n) Same Smaller
  full_fits e =
      let m = MatchBool-at_false ((new ≡ cells) × (left ≡ none)) (MatchBool (nat_le (total_width (effective cells config none)) n) Filled Narrowed) e narrows in
      let moved : nat_le (total_width (effective cells config none)) n ≡ nat_le (total_width (estimated cells config)) n =
      ap (λ (u : Sheet). nat_le (total_width u) n) before_is in
      ⊎_elim
      (λ y.
      let stays = MatchBool-at_true Filled Narrowed (moved ∙ y) m in
      subst (λ b. MatchBool b Same Smaller) (sym y) (measured stays.0 stays.1))
      (λ no. subst (λ b. MatchBool b Same Smaller) (sym no) (narrowed_to (MatchBool-at_false Filled Narrowed (moved ∙ no) m)))
      (cases_Bool (nat_le (total_width (estimated cells config)) n))

  -- the table that is printed is the new one, fitted
  pub fitted : FitsInto (OrderShrinks s.order) change n (estimated cells config) (effective new config last)
  fitted = ⊎_elim empty_fits full_fits (cases_Bool (is_empty cells))

-- ---- where a sum passes the range

too_wide_without : (cells : Cells) (config : SpannedConfig) → IsTooWide (emptied cells) config → IsTooWide cells config
too_wide_without cells config w = record {
  row = w.row;
  column = w.column;
  row_in = subst (λ k. w.row < k) (emptied-rows cells) w.row_in;
  column_in = subst (λ k. w.column < k) (emptied-columns cells) w.column_in;
  out_of_range =
      let p = w.out_of_range in
      let none : text_columns [] ≤ 0 = text_columns-stays {n = 0} {text = []} StaysWithin-none in
      let same = ap text_columns (emptied-cell cells w.row w.column) in
      omega arith;
}

pub passes : (n : ℕ) (cells : Cells) (config : SpannedConfig) (none : CompleteDimension) → widths_of none ≡ None → heights_of none ≡ None
    → NarrowingOutOfRange ⊥ n cells config none → IsOutOfRange (estimated cells config)
passes n cells config none no_widths no_heights h =
    let full = h.0 in
    let unestimated : HasNoEstimate none cells config → IsOutOfRange (estimated cells config) =
    λ u. ⊎_elim (λ w. passes_too_wide cells config w.1) (λ t. passes_too_high cells config t.1) u in
    let whole : total_width (estimated cells config) ≡ filled_width config (columns cells) (estimated_widths cells config) =
    ap (λ b. cond b 0 (filled_width config (columns cells) (estimated_widths cells config))) full in
    ⊎_elim (λ (no : ⊥). absurd no)
    (λ c. ⊎_elim unestimated
    (λ d. ⊎_elim
    (λ t.
    let wide : 2 ^ 64 ≤ total_width (estimated cells config) = subst (λ (u : Sheet). 2 ^ 64 ≤ total_width u) (effective_estimated cells config none no_widths no_heights) t in
    inl (subst (λ k. 2 ^ 64 ≤ k) whole wide))
    (λ t. passes_too_wide cells config (too_wide_without cells config t.1)) d) c)
    h.1

-- ---- the table that an option narrows, as its plan says

least_by : (o : Order) (s : OrderPriority) → s.order ≡ o → (old new : Sheet) → (TakesGreatest Shrinks s → HasLeastWidth old new) → IsLeastBy o old new
least_by Greatest s is old new f =
    f (λ last xs mins ys by h. (
      true,
      subst (λ o. IsShrunk o s.round.kept (record { old = xs; mins = mins; by = by; new = ys }) last.round.kept) is h.0,
    ))
least_by _ s is old new f = tt

module _ (s : OrderPriority) (begins : s.round.kept ≡ 0) (n : ℕ) (cells new : Cells) (config : SpannedConfig) (none left last : CompleteDimension)
    (no_widths : widths_of none ≡ None) (no_heights : heights_of none ≡ None) (rectangular : IsRectangular cells) (texts : AreTexts cells) where
  abbrev whole : Sheet
  whole = estimated cells config

  abbrev t : Sheet
  t = effective new config last

  is_estimated : effective cells config none ≡ whole
  is_estimated = effective_estimated cells config none no_widths no_heights

  made : (plan : Plan) (change : ℕ → List ℕ → List ℕ → Type 0) → IsPlannedOf plan whole t → FitsInto (OrderShrinks s.order) change n whole t
      → (n < total_width whole → HasExactTotal n whole t) → HasWantedTotal plan whole t → HasLeastGreatestWidth plan whole t → HasFewestBreaks plan whole t
      → HasLongestBeginnings plan whole t → IsAsBuffered plan whole t → IsReadyOf plan whole t
  made plan change planned fits exact total least fewest longest alike = record {
    planned = planned;
    best = record {
      edges = fitted_lines (OrderShrinks s.order) change n cells config t fits exact rectangular texts;
      lines = picture_lines t;
      total = total;
      least = least;
      fewest = fewest;
      longest = longest;
      alike = alike;
    };
    same = fitted_empty (OrderShrinks s.order) change n cells config t fits exact;
    sized = fitted_sized (OrderShrinks s.order) change n cells config t fits exact;
    holds = fitted_holds (OrderShrinks s.order) change n cells config t fits exact;
  }

  pub wrapped : (words : Bool) → Narrows (shrinking_to Shrinks s n) (wrapping words) (sized_table cells config none) new left
      → AreCleared (Some (Row 0)) left last
      → WrapsAsPromised Shrinks s words n (effective cells config none) t → IsReadyOf (Wrapped n words s.order) whole t
  wrapped words narrows cleared promise =
      let change = wrapping words in
      let fits = fitted s begins change n cells new config none left last (Some (Row 0)) no_widths no_heights refl narrows cleared in
      let p : WrapsAsPromised Shrinks s words n whole t = subst (λ o. WrapsAsPromised Shrinks s words n o t) is_estimated promise in
      let exact : n < total_width whole → HasExactTotal n whole t = λ h. p.exact (takes_all s) (whole_wider n cells config h) texts in
      made (Wrapped n words s.order) change fits fits exact exact
      (λ h. least_by s.order s refl whole t (λ greatest. p.least greatest (whole_wider n cells config h)))
      (λ h. p.best (takes_all s) (whole_wider n cells config h)) tt tt

  pub truncated : Narrows (shrinking_to Shrinks s n) (if_wider (truncating [] Cut false)) (sized_table cells config none) new left
      → AreCleared None left last
      → TruncatesAsPromised Shrinks s [] Cut false n (effective cells config none) t → IsReadyOf (Shortened n s.order) whole t
  truncated narrows cleared promise =
      let change = if_wider (truncating [] Cut false) in
      let fits = fitted s begins change n cells new config none left last None no_widths no_heights refl narrows cleared in
      let p : TruncatesAsPromised Shrinks s [] Cut false n whole t = subst (λ o. TruncatesAsPromised Shrinks s [] Cut false n o t) is_estimated promise in
      let exact : n < total_width whole → HasExactTotal n whole t = λ h. p.exact (takes_all s) no_text_plain tt (whole_wider n cells config h) texts in
      made (Shortened n s.order) change fits fits exact exact
      (λ h. least_by s.order s refl whole t (λ greatest. p.least greatest (whole_wider n cells config h)))
      tt (λ h. p.best (takes_all s) refl (whole_wider n cells config h)) tt
