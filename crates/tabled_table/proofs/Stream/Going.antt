-- How a stream goes on behind the rows that were taken first.
use Rattle.tabled_table.proofs.Names.{AreFurther, Bool, CompactConfig, EndsSheet, Err, Halts, HasPut, HasPutMore, IsErrAnd, IsLimited}
use Rattle.tabled_table.proofs.Names.{IsPermitted, Layout, List, MatchOption, MatchResult, Memory, None, Ok, Option, PutsNext, Reads}
use Rattle.tabled_table.proofs.Names.{ReadsTo, Result, Sent, Some, StreamSettings, TableError, [], ap, append-nil, append_assoc, arith}
use Rattle.tabled_table.proofs.Names.{cases_lt, column_count, content_height, false, get_or, if◌then◌else◌, inl, inr, is_some, left_of}
use Rattle.tabled_table.proofs.Names.{length, length-append, length-take, nat_lt, nat_tests, not, reads-both, refl, stream_total, subst}
use Rattle.tabled_table.proofs.Names.{sym, take, take_more, tallest, true, unwrap_or, ℕ, ⊎_elim, ◌++◌, ◌+◌, ◌-◌, ◌<◌, ◌||◌, ◌∙◌, ◌∷◌, ◌≡◌}
use Rattle.tabled_table.proofs.Names.{◌≤◌, ◌⊎◌}
use Rattle.std.proofs.Common.{IfErr}
use Rattle.std.proofs.lemmas.Bool.{or_right}
use Rattle.tabled_table.specs.Stream.Progress.{FinishesBehind, HaltsMore, ReadsOn, PutsRows}
use Rattle.tabled_table.proofs.Stream.Steps.{halts-before}

none-permitted : (left : Option ℕ) → IsPermitted left 0
none-permitted None = tt
none-permitted (Some n) = omega arith

none-below : (n : ℕ) (all : Bool) → (all ≡ true) ⊎ (Some n ≡ Some 0) → all ≡ false → 0 ≡ n
none-below n all (inl h) e = absurd (cc)
none-below n all (inr h) e = cc

none-limited : (left : Option ℕ) (all : Bool) → (all ≡ true) ⊎ (left ≡ Some 0) → IsLimited left 0 all
none-limited None all (inl h) = h
none-limited None all (inr h) = absurd (cc)
none-limited (Some n) all h = (omega arith, none-below n all h)

-- no further row was taken
pub none-further : (limit : Option ℕ) (kept : ℕ) (all : Bool) → AreFurther limit kept all 0 all
none-further limit kept all = record { permitted = none-permitted (left_of limit kept); none = λ e. (refl, e) }

pub some-further : (limit left : Option ℕ) (kept more : ℕ) (all whole : Bool) → left ≡ left_of limit kept → all ≡ false → IsPermitted left more
    → AreFurther limit kept all more whole
some-further limit left kept more all whole e opened permitted = record {
  permitted = subst (λ l. IsPermitted l more) e permitted;
  none = λ closed. absurd (cc);
}

module _ {S W T A : Type 0} {steps : S → Option W → S → Type 0} {becomes : W → T → Type 0} {cell_steps : T → Option A → T → Type 0} where
  pub reads-no-more : (kept : List (List A)) (all : Bool) (at : S) → ReadsOn steps becomes cell_steps kept all at [] all at
  reads-no-more kept all at from r =
      let P : List (List A) → Type 0 = λ rows. ReadsTo steps becomes cell_steps from rows all at in subst P (sym (append-nil kept)) r

  pub reads-more : (kept more : List (List A)) (all whole : Bool) (between to : S) → all ≡ false → ReadsTo steps becomes cell_steps between more whole to
      → ReadsOn steps becomes cell_steps kept all between more whole to
  reads-more kept more all whole between to opened m from r =
      let same : r.reached ≡ between = r.further opened in
      record {
        reached = m.reached;
        reads = reads-both r.reads (subst (λ s. Reads steps becomes cell_steps s more m.reached) (sym same) m.reads);
        ended = m.ended;
        further = m.further;
      }

module _ {R : Type 0} {layout : Layout} {first begun : Bool} {old new : Sent} {left : Option ℕ} {lines total : ℕ} {r : Result R TableError} where
  -- the end of the table follows
  pub behind-ending : (all : Bool) → (all ≡ true) ⊎ (left ≡ Some 0)
      → ((settings : StreamSettings) (config : CompactConfig) (ahead_rows shown : List (List (List ℕ))) (start : Sent) → 0 < length shown → 0 < layout.count
      → total ≡ stream_total settings config ahead_rows → HasPut settings config ahead_rows shown start layout first old begun
      → EndsSheet settings config ahead_rows shown start r new)
      → FinishesBehind left lines total all [] layout first old begun r new
  behind-ending all h ends settings config ahead_rows shown start a l s w t p =
      let E : List (List (List ℕ)) → Type 0 = λ rows. EndsSheet settings config ahead_rows rows start r new in
      inl (none-limited left all h, subst E (sym (append-nil shown)) (ends settings config ahead_rows shown start s w t p))

-- ---- a stream that is printed to its end, or halts

pub err-and : {R E : Type 0} (r : Result R E) (e : E) (Q : E → Type 0) → IsErrAnd r (λ d. d ≡ e) → Q e → IsErrAnd r Q
err-and (Ok x) e Q i q = absurd i
err-and (Err d) e Q i q = subst Q (sym i) q

-- further rows are printed
module _ {R : Type 0} {layout : Layout} {first begun : Bool} {old new : Sent} (limit : Option ℕ) (lines total : ℕ) (whole : Bool)
    (more : List (List (List ℕ))) (r : Result R TableError) (going : limit ≡ Some 0 → ⊥) where
  pub finishes-halting : (e : TableError) → IsErrAnd r (λ d. d ≡ e) → HaltsMore lines more layout first old begun e new
      → FinishesBehind limit lines total whole more layout first old begun r new
  finishes-halting e i halts settings config ahead_rows shown start a l s w t p =
      inr (err-and r e (λ d. Halts settings config ahead_rows (shown ++ more) start layout.count d new) i (halts settings config ahead_rows shown start (a going) l p))

  pub finishes-ending : {first' begun' : Bool} {mid : Sent} → IsLimited limit (length more) whole
      → HasPutMore lines more layout first old begun first' mid begun'
      → ((settings : StreamSettings) (config : CompactConfig) (ahead_rows shown : List (List (List ℕ))) (start : Sent) → 0 < length shown → 0 < layout.count
      → total ≡ stream_total settings config ahead_rows → HasPut settings config ahead_rows shown start layout first' mid begun'
      → EndsSheet settings config ahead_rows shown start r new)
      → FinishesBehind limit lines total whole more layout first old begun r new
  finishes-ending lim so_far ends settings config ahead_rows shown start a l s w t p =
      inl (
        lim,
        ends settings config ahead_rows (shown ++ more) start (omega (arith, length-append shown more)) w t
            (so_far settings config ahead_rows shown start (a going) l p),
      )

pub limited-permitted : (limit : Option ℕ) (count : ℕ) (whole : Bool) → IsLimited limit count whole → IsPermitted limit count
limited-permitted None count whole h = tt
limited-permitted (Some n) count whole h = h.0

-- ---- rows that are printed one after another

pub match-err : {R E : Type 0} (r : Result R E) (e : E) (P : R → Type 0) (Q : E → Type 0) → IsErrAnd r (λ d. d ≡ e) → Q e → MatchResult r P Q
match-err (Ok x) e P Q i q = absurd i
match-err (Err d) e P Q i q = subst Q (sym i) q

pub kept-next : {R : Type 0} {settings : StreamSettings} {config : CompactConfig} {ahead_rows : List (List (List ℕ))} {start : Sent}
    (texts : List (List (List ℕ))) (k lines : ℕ) (row : List (List ℕ)) (ahead : Bool) (layout : Layout) (first first' begun begun' : Bool) (old new : Sent)
    (r : Result R TableError) → k < length texts → get_or texts k [] ≡ row
    → lines ≡ unwrap_or settings.height (if is_some settings.width || not ahead then 1 else tallest layout.count row) → ahead ≡ nat_lt k (length ahead_rows)
    → HasPut settings config ahead_rows (take k texts) start layout first old begun → PutsNext lines row layout first old begun r first' new begun'
    → PutsRows settings config ahead_rows (take (k + 1) texts) start layout r first' new begun'
kept-next {settings = settings} {config} {ahead_rows} {start} texts k lines row ahead layout first first' begun begun' old new r h at l a p next =
    let whole : take (k + 1) texts ≡ take k texts ++ row ∷ [] = take_more texts k [] h ∙ ap (λ x. take k texts ++ x ∷ []) at in
    let many : length (take k texts) ≡ k = omega (arith, length-take k texts) in
    let lines_are : lines ≡ content_height settings ahead_rows (length (take k texts)) row =
    l ∙ ap (λ b. unwrap_or settings.height (if is_some settings.width || not b then 1 else tallest layout.count row)) a
    ∙ ap (λ n. unwrap_or settings.height (if is_some settings.width || not (nat_lt n (length ahead_rows)) then 1 else tallest layout.count row)) (sym many)
    ∙ ap (λ n. unwrap_or settings.height
    (if is_some settings.width || not (nat_lt (length (take k texts)) (length ahead_rows)) then 1 else tallest n row)) p.laid.count in
    let P : List (List (List ℕ)) → Type 0 = λ rows. PutsRows settings config ahead_rows rows start layout r first' new begun' in
    subst P (sym whole) (next settings config ahead_rows (take k texts) start p lines_are)

past : (i n : ℕ) → n ≤ i → nat_lt i n ≡ false
past i n h = grind (arith, nat_tests)

later-height : (settings : StreamSettings) (ahead_rows : List (List (List ℕ))) (index lines : ℕ) (row : List (List ℕ)) → length ahead_rows ≤ index
    → lines ≡ unwrap_or settings.height 1 → lines ≡ content_height settings ahead_rows index row
later-height settings ahead_rows index lines row h l =
    let t = tallest (column_count settings ahead_rows) row in
    l
    ∙ sym (ap (λ b. unwrap_or settings.height (if is_some settings.width || not b then 1 else t)) (past index (length ahead_rows) h)
    ∙ ap (λ b. unwrap_or settings.height (if b then 1 else t)) (or_right (is_some settings.width) true refl))

module _ {layout : Layout} {lines : ℕ} {more : List (List (List ℕ))} {first first' begun begun' : Bool} {old mid : Sent} where
  pub more-next : (row : List (List ℕ)) (first'' begun'' : Bool) (new : Sent) → HasPutMore lines more layout first old begun first' mid begun'
      → PutsNext {R = Unit {0}} lines row layout first' mid begun' (Ok tt) first'' new begun''
      → HasPutMore lines (more ++ row ∷ []) layout first old begun first'' new begun''
  more-next row first'' begun'' new so_far next settings config ahead_rows shown start a l p =
      let P : List (List (List ℕ)) → Type 0 = λ rows. HasPut settings config ahead_rows rows start layout first'' new begun'' in
      subst P (append_assoc shown more (row ∷ []))
      (next settings config ahead_rows (shown ++ more) start (so_far settings config ahead_rows shown start a l p)
      (later-height settings ahead_rows (length (shown ++ more)) lines row (omega (arith, length-append shown more)) l))

  pub more-halts : (row : List (List ℕ)) (first'' begun'' : Bool) (new : Sent) (error : TableError)
      → HasPutMore lines more layout first old begun first' mid begun'
      → PutsNext {R = Unit {0}} lines row layout first' mid begun' (Err error) first'' new begun''
      → HaltsMore lines (more ++ row ∷ []) layout first old begun error new
  more-halts row first'' begun'' new error so_far next settings config ahead_rows shown start a l p =
      let P : List (List (List ℕ)) → Type 0 = λ rows. Halts settings config ahead_rows rows start layout.count error new in
      subst P (append_assoc shown more (row ∷ []))
      (next settings config ahead_rows (shown ++ more) start (so_far settings config ahead_rows shown start a l p)
      (later-height settings ahead_rows (length (shown ++ more)) lines row (omega (arith, length-append shown more)) l))

  pub more-refused : (row : List (List ℕ)) (error : TableError) → HasPutMore lines more layout first old begun first' mid begun' → error ≡ Memory
      → HaltsMore lines (more ++ row ∷ []) layout first old begun error mid
  more-refused row error so_far m settings config ahead_rows shown start a l p =
      let P : List (List (List ℕ)) → Type 0 = λ rows. Halts settings config ahead_rows rows start layout.count error mid in
      subst P (append_assoc shown more (row ∷ [])) (halts-before row error mid (so_far settings config ahead_rows shown start a l p) refl (inr m))

pub err-as : {R E : Type 0} (r : Result R E) (e : E) (Q : E → Type 0) → IsErrAnd r (λ d. d ≡ e) → Q e → IfErr r Q
err-as (Ok x) e Q i q = absurd i
err-as (Err d) e Q i q = subst Q (sym i) q

pub more-none : (layout : Layout) (lines : ℕ) (first begun : Bool) (old : Sent) → HasPutMore lines [] layout first old begun first old begun
more-none layout lines first begun old settings config ahead_rows shown start a l p =
    let P : List (List (List ℕ)) → Type 0 = λ rows. HasPut settings config ahead_rows rows start layout first old begun in
    subst P (sym (append-nil shown)) p

-- how many rows may still be printed
abbrev pub IsLeft : Option ℕ → Option ℕ → ℕ → Type 0
IsLeft limit left count = MatchOption limit (left ≡ None) (λ n. (left ≡ Some (n - count)) × (count ≤ n))

pub left-first : (limit : Option ℕ) → IsLeft limit limit 0
left-first None = refl
left-first (Some n) = (ap Some (let e : n ≡ n - 0 = omega arith in e), omega arith)

below-limit : (left : Option ℕ) (n count : ℕ) → left ≡ Some (n - count) → count ≤ n → (left ≡ Some 0 → ⊥) → count + 1 ≤ n
below-limit left n count e w going =
    ⊎_elim (λ (l : count < n). omega arith) (λ (l : n ≤ count). absurd (going (e ∙ ap Some (let z : n - count ≡ 0 = omega arith in z)))) (cases_lt count n)

pub permitted-next : (limit left : Option ℕ) (count : ℕ) → IsLeft limit left count → (left ≡ Some 0 → ⊥) → IsPermitted limit (count + 1)
permitted-next None left count h going = tt
permitted-next (Some n) left count h going = below-limit left n count h.0 h.1 going

pub left-next : (limit left next : Option ℕ) (count more : ℕ) → IsLeft limit left count → (left ≡ Some 0 → ⊥)
    → next ≡ left_of left 1 → more ≡ count + 1 → IsLeft limit next more
left-next None left next count more h going f m = f ∙ ap (λ (o : Option ℕ). left_of o 1) h
left-next (Some n) left next count more h going f m = (
  f ∙ ap (λ (o : Option ℕ). left_of o 1) h.0 ∙ ap Some (let e : n - count - 1 ≡ n - more = omega arith in e),
  (let w = below-limit left n count h.0 h.1 going in omega arith),
)
