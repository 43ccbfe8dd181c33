-- What tables that grew, or whose rows shrank, keep of what is promised.
use Rattle.tabled_set.proofs.Names.{AreChanged, AreCleared, CompleteDimension, IsFilledIn, IsGrownBy, IsSized, IsTakenFrom, List, None}
use Rattle.tabled_set.proofs.Names.{Sheet, Shrinks, Some, SpannedConfig, [], ap, arith, at, columns, cond, effective, effective_sizes}
use Rattle.tabled_set.proofs.Names.{estimated, estimated_heights, estimated_widths, false, filled_height, frame_height, frame_width}
use Rattle.tabled_set.proofs.Names.{heights_length, heights_of, inl, inr, is_empty, le-leb, length, lt-leb, nat_le, subst, sum, sym, take}
use Rattle.tabled_set.proofs.Names.{take-length, total_height, total_width, true, widths_of, ℕ, ⊎_elim, ◌+◌, ◌-◌, ◌<◌, ◌^◌, ◌∙◌, ◌≡◌, ◌≤◌}
use Rattle.tabled_set.proofs.Names.{◌⊎◌}
use Rattle.tabled_set.proofs.ChangingCells.{at-last, match-both, match-false, match-last, match-true}
use Rattle.tabled_set.specs.Increased.{IncreasesWidth, IsWidened, IncreasesHeight, IsHeightened}
use Rattle.tabled_set.proofs.NarrowingTables.{effective-filled, filled-size, effective-same}
use Rattle.tabled_set.proofs.Totals.{short-widths, filled_height-frame, grown-sum, shrunk-total, some-lines, full_total}
use Rattle.tabled_set.specs.Priorities.{Grows, AddsTo, growing_to, shrinking_to}
use Rattle.tabled_set.specs.SizedTable.{sized_table}
use Rattle.std.proofs.lemmas.List.{take_all}
use Rattle.tabled_set.specs.Narrowed.{IsShrunkBy, IsLowered, LimitsHeight, for_height}
use Rattle.tabled_set.proofs.ExactTotals.{changed_empty}
use Rattle.tabled_set.specs.Promised.{HeightensAsPromised, LimitsAsPromised, WidensAsPromised}

-- the lines of a table that is filled
pub full_height : (cells : List (List (List ℕ))) (config : SpannedConfig) → is_empty cells ≡ false → total_height (estimated cells config) ≡ filled_height config (length cells) (estimated_heights cells config)
full_height cells config some = ap (λ b. cond b 0 (filled_height config (length cells) (estimated_heights cells config))) some

total-estimated : (cells : List (List (List ℕ))) (config : SpannedConfig) → is_empty cells ≡ false
    → total_height (estimated cells config) ≡ sum (estimated_heights cells config) + frame_height config (length cells)
total-estimated cells config some =
    full_height cells config some
    ∙ filled_height-frame config (length cells) (estimated_heights cells config) (heights_length cells config)

pub heights-fit : (cells : List (List (List ℕ))) (config : SpannedConfig) (n : ℕ) → is_empty cells ≡ false → total_height (estimated cells config) < n → n < 2 ^ 64 → sum (estimated_heights cells config) + (n - total_height (estimated cells config)) < 2 ^ 64
heights-fit cells config n some lt fits = let total = total-estimated cells config some in omega (arith, total, lt, fits)

-- ---- a table whose sizes were filled in, with its widths and its total

pub widths-fit : (cells : List (List (List ℕ))) (config : SpannedConfig) (sizes : CompleteDimension) (n : ℕ) → is_empty cells ≡ false
    → total_width (effective cells config sizes) < n → n < 2 ^ 64
    → sum (effective cells config sizes).widths + (n - total_width (effective cells config sizes)) < 2 ^ 64
widths-fit cells config sizes n some lt fits =
    let total = full_total (effective cells config sizes) some (short-widths cells config sizes) in
    omega (arith, total, lt, fits)

module _ (cells : List (List (List ℕ))) (config : SpannedConfig) (old mid : CompleteDimension) (some : is_empty cells ≡ false)
    (filled : IsFilledIn old cells config mid) {P : Type 0} (grows : Grows P) (priority : P) (n : ℕ) where
  pub wide-already : n ≤ total_width (effective cells config mid)
      → IncreasesWidth (growing_to grows priority n) (sized_table cells config old) mid
  wide-already le =
      let t = effective cells config old in
      let e = ap total_width (effective-filled cells config old mid filled) in
      let within : nat_le n (total_width t) ≡ true = le-leb n (total_width t) (omega (arith, le, e)) in
      match-false (mid ≡ old) _ some
      (match-true (IsFilledIn old cells config mid)
      (IsWidened (growing_to grows priority n) (sized_table cells config old) mid) within filled)

  pub made-wider : total_width (effective cells config mid) < n → (new : CompleteDimension) (list : List ℕ)
      → IsGrownBy grows priority (effective cells config mid).widths (n - total_width (effective cells config mid)) list
      → widths_of new ≡ Some list → heights_of new ≡ heights_of mid
      → IncreasesWidth (growing_to grows priority n) (sized_table cells config old) new
  made-wider lt new list grown is_new high =
      let t = effective cells config old in
      let e = effective-filled cells config old mid filled in
      let above : nat_le n (total_width t) ≡ false = lt-leb n (total_width t) (omega (arith, lt, ap total_width e)) in
      match-last _ _ some above (record {
        widths = list;
        grown = subst (λ (s : Sheet). IsGrownBy grows priority s.widths (n - total_width s) list) e grown;
        stored = is_new;
        heights = high ∙ filled.heights;
      })

-- ---- heights

-- heights that are stored, one a row, stand
total-stored : (cells : List (List (List ℕ))) (config : SpannedConfig) (left : CompleteDimension) (heights : List ℕ)
    → is_empty cells ≡ false → heights_of left ≡ Some heights → length heights ≡ length cells
    → total_height (effective cells config left) ≡ sum heights + frame_height config (length cells)
total-stored cells config left heights some stored long =
    let stand : effective_sizes (heights_of left) (estimated_heights cells config) (length cells) ≡ heights =
    ap (λ o. effective_sizes o (estimated_heights cells config) (length cells)) stored ∙ ap (λ k. take k heights) (sym long)
    ∙ take-length heights in
    ap (λ b. cond b 0 (filled_height config (length cells) (effective cells config left).heights)) some
    ∙ ap (filled_height config (length cells)) stand
    ∙ filled_height-frame config (length cells) heights long

-- heights that grow or shrink from the estimates by the settings that a table lends
module _ {P : Type 0} (s : P) (n m total : ℕ) (cells : List (List (List ℕ))) (config lent : SpannedConfig)
    (old new : CompleteDimension) (heights list : List ℕ) (same : lent ≡ config) (some : is_empty cells ≡ false) (measured : m ≡ n)
    (whole : total ≡ total_height (estimated cells lent)) (high : heights ≡ estimated_heights cells lent)
    (stored : heights_of new ≡ Some list) (wide : widths_of new ≡ widths_of old) where
  all : total ≡ total_height (estimated cells config)
  all = whole ∙ ap (λ c. total_height (estimated cells c)) same

  pub heightened : (grows : Grows P) → total < m → IsGrownBy grows s heights (m - total) list
      → IncreasesHeight (growing_to grows s n) (sized_table cells config old) new
  heightened grows less grown =
      let by : m - total ≡ n - total_height (estimated cells config) = ap (λ k. k - total) measured ∙ ap (λ k. n - k) all in
      let above = lt-leb n (total_height (estimated cells config)) (omega (arith, all, measured, less)) in
      match-last _ _ some above (record {
        heights = list;
        grown =
            subst (λ k. IsGrownBy grows s (estimated_heights cells config) k list) by
            (subst (λ hs. IsGrownBy grows s hs (m - total) list) (high ∙ ap (λ c. estimated_heights cells c) same) grown);
        stored = stored;
        widths = wide;
      })

  pub lowered : (shrinks : Shrinks P) (cells' : List (List (List ℕ))) (kept : List ℕ) → m < total
      → IsShrunkBy shrinks s heights [] (total - m) list → kept ≡ list → AreChanged (λ row column. true) (for_height kept) cells cells'
      → LimitsHeight (shrinking_to shrinks s n) (sized_table cells config old) cells' new
  lowered shrinks cells' kept less shrunk e changed =
      let by : total - m ≡ total_height (estimated cells config) - n =
      ap (λ k. k - m) all ∙ ap (λ k. total_height (estimated cells config) - k) measured in
      let above = lt-leb (total_height (estimated cells config)) n (omega (arith, all, measured, less)) in
      match-last _ _ some above (record {
        heights = list;
        shrunk =
            subst (λ k. IsShrunkBy shrinks s (estimated_heights cells config) [] k list) by
            (subst (λ hs. IsShrunkBy shrinks s hs [] (total - m) list) (high ∙ ap (λ c. estimated_heights cells c) same) shrunk);
        changed = subst (λ hs. AreChanged (λ row column. true) (for_height hs) cells cells') e changed;
        stored = stored;
        widths = wide;
      })

module _ {P : Type 0} (grows : Grows P) (s : P) (n : ℕ) (cells : List (List (List ℕ))) (config : SpannedConfig)
    (old new left : CompleteDimension) (h : IncreasesHeight (growing_to grows s n) (sized_table cells config old) new)
    (cleared : AreCleared None new left) where
  pub heightens : HeightensAsPromised grows s n cells config (effective cells config left)
  heightens = record {
    exact = λ adds some less.
        let total = total_height (estimated cells config) in
        let is : IsHeightened (growing_to grows s n) (sized_table cells config old) new =
        at-last (is_empty cells) (nat_le n total) _ _ h some (lt-leb n total less) in
        let before = estimated_heights cells config in
        let grown = adds is.grown.last before is.heights (n - total_height (estimated cells config)) is.grown.grown in
        let more = grown-sum before is.heights (n - total_height (estimated cells config)) (some-lines cells config some) grown in
        let now =
        total-stored cells config left is.heights some (cleared.heights ∙ is.stored)
        (is.grown.kept.same_length ∙ heights_length cells config) in
        let was = total-estimated cells config some in
        omega (arith, now, was, more, less);
  }

module _ {P : Type 0} (shrinks : Shrinks P) (s : P) (n : ℕ) (cells : List (List (List ℕ))) (config : SpannedConfig)
    (old : CompleteDimension) (cells' : List (List (List ℕ))) (new left : CompleteDimension)
    (h : LimitsHeight (shrinking_to shrinks s n) (sized_table cells config old) cells' new) (cleared : AreCleared None new left) where
  pub limits : LimitsAsPromised shrinks s n cells config (effective cells' config left)
  limits = record {
    exact = λ takes some more.
        let total = total_height (estimated cells config) in
        let is : IsLowered (shrinking_to shrinks s n) (sized_table cells config old) cells' new =
        at-last (is_empty cells) (nat_le total n) _ _ h some (lt-leb total n more) in
        let before = estimated_heights cells config in
        let frame = frame_height config (length cells) in
        let was : total_height (estimated cells config) ≡ sum before + frame = total-estimated cells config some in
        let taken = takes is.shrunk.last before [] is.heights (total_height (estimated cells config) - n) is.shrunk.shrunk in
        let none : is_empty cells' ≡ false = changed_empty (λ row column. true) (for_height is.heights) cells cells' is.changed ∙ some in
        let long : length is.heights ≡ length cells' = taken.permitted.same_length ∙ heights_length cells config ∙ sym is.changed.rows in
        total-stored cells' config left is.heights none (cleared.heights ∙ is.stored) long
        ∙ ap (λ k. sum is.heights + frame_height config k) is.changed.rows
        ∙ shrunk-total before is.heights frame n (subst (λ k. n < k) was more)
        (subst (λ k. IsTakenFrom before [] (k - n) is.heights) was taken);
  }

-- ---- widths

module _ {P : Type 0} (grows : Grows P) (s : P) (n : ℕ) (cells : List (List (List ℕ))) (config : SpannedConfig)
    (old new left : CompleteDimension) (h : IncreasesWidth (growing_to grows s n) (sized_table cells config old) new)
    (cleared : AreCleared None new left) where
  abbrev pub before : Sheet
  before = effective cells config old

  abbrev pub after : Sheet
  after = effective cells config left

  abbrev pub widened : Type 0
  widened = IsWidened (growing_to grows s n) (sized_table cells config old) new

  -- the widths that grew are those that stand
  grown-widths : (is : widened) → after.widths ≡ is.widths
  grown-widths is =
      ap (λ o. effective_sizes o (estimated_widths cells config) (columns cells)) (cleared.widths ∙ is.stored)
      ∙ take_all (columns cells) is.widths
      (subst (λ k. k ≤ columns cells) (sym is.grown.kept.same_length) (short-widths cells config old))

  exact : AddsTo grows s → is_empty cells ≡ false → total_width before < n → 0 < sum before.widths → total_width after ≡ n
  exact adds some less positive =
      let is : widened = at-last (is_empty cells) (nat_le n (total_width before)) _ _ h some (lt-leb n (total_width before) less) in
      let grown = adds is.grown.last before.widths is.widths (n - total_width before) is.grown.grown in
      let more = grown-sum before.widths is.widths (n - total_width before) positive grown in
      let frame = frame_width config (columns cells) in
      let was : total_width before ≡ sum before.widths + frame = full_total before some (short-widths cells config old) in
      let now : total_width after ≡ sum after.widths + frame = full_total after some (short-widths cells config left) in
      let wide = ap sum (grown-widths is) in
      omega (arith, now, wide, was, more, less)

  -- the sizes that stand are the same, or the widths grew
  same-or-widened : (after ≡ before) ⊎ widened
  same-or-widened =
      match-both (is_empty cells) h
      (λ _ same. inl (effective-same cells config old left (cleared.widths ∙ ap widths_of same) (cleared.heights ∙ ap heights_of same)))
      (λ _ rest. match-both (nat_le n (total_width before)) rest
      (λ _ is. inl (effective-filled cells config old left
      (record { widths = cleared.widths ∙ is.widths; heights = cleared.heights ∙ is.heights })))
      (λ _ is. inr is))

  no-less : (i : ℕ) → at before.widths i ≤ at after.widths i
  no-less i = ⊎_elim
      (λ same. omega (arith, ap (λ t. at t.widths i) same))
      (λ is. omega (arith, ap (λ ws. at ws i) (grown-widths is), is.grown.kept.least i))
      same-or-widened

  -- as many widths stand as stood, and the heights that stood
  same-count : (length after.widths ≡ length before.widths) × (after.heights ≡ before.heights)
  same-count = ⊎_elim
      (λ same. (ap (λ (t : Sheet). length t.widths) same, ap (λ (t : Sheet). t.heights) same))
      (λ is. (
        ap length (grown-widths is) ∙ is.grown.kept.same_length,
        ap (λ o. effective_sizes o (estimated_heights cells config) (length cells)) (cleared.heights ∙ is.heights)
            ∙ filled-size (heights_of old) (estimated_heights cells config) (length cells) (heights_length cells config),
      ))
      same-or-widened

  stays-sized : IsSized before → IsSized after
  stays-sized was = record {
    columns = let e = same-count.0 in let wide = was.columns in omega arith;
    rows = subst (λ (hs : List ℕ). length cells ≤ length hs) (sym same-count.1) was.rows;
  }

  pub widens : WidensAsPromised grows s n before after
  widens = record {
    exact = exact;
    sized = stays-sized;
    holds = λ holds row column r c. let was = holds row column r c in let more = no-less column in omega arith;
  }
