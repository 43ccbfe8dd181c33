-- What calls that print one of several tables leave.
use Rattle.std.proofs.Common.{None, Option, Some, unwrap_or, Bool, Err, IfErr, IfOk, OnOk, List, Ok, Result, ap, false, inl, inr, refl, subst, sym, true, ℕ, ⊎_elim, ◌∙◌, ◌≡◌}
use Rattle.std.specs.Borrow.{Bor}
use Rattle.std.specs.Option.{option_copied}
use Rattle.std.specs.Result.{IsErrAnd}
use Rattle.tabled_base.specs.declared.error.TableError.{TableError}
use Rattle.tabled_grid.specs.Printed.{Prints}
use Rattle.tabled_line.specs.Sent.{Sent}
use Rattle.tabled_config.specs.declared.spanned.SpannedConfig.{SpannedConfig}
use Rattle.tabled_size.specs.Effective.{effective}
use Rattle.tabled_size.specs.Sheet.{Sheet}
use Rattle.tabled_size.specs.declared.complete_dimension.CompleteDimension.{CompleteDimension}
use Rattle.tabview_print.specs.PrintedTables.{PrintsShown, StopsBeforePrinting}

-- an early error
pub stopped-early : (shows : Sheet → Type 0) (none : Type 0) (t : Sheet) (old : Sent) (r : Result Bool TableError) (e : TableError)
    → IsErrAnd r (λ d. d ≡ e) → StopsBeforePrinting t e → PrintsShown shows none t old r old
stopped-early shows none t old (Ok x) e i c = absurd i
stopped-early shows none t old (Err d) e i c = inl (subst (StopsBeforePrinting t) (sym i) c, refl)

-- an error of printing
pub stopped-printing : (shows : Sheet → Type 0) (none : Type 0) (t shown : Sheet) (estimates : Bool) (old : Sent) (r : Result Bool TableError) (e : TableError) (new : Sent)
    → IsErrAnd r (λ d. d ≡ e) → shows shown → Prints {T = Bool} estimates shown old (Err e) new → PrintsShown shows none t old r new
stopped-printing shows none t shown estimates old (Ok x) e new i s p = absurd i
stopped-printing shows none t shown estimates old (Err d) e new i s p = inr (record {
  shown = shown;
  is_shown = s;
  estimates = estimates;
  prints = subst (λ d. Prints {T = Bool} estimates shown old (Err d) new) (sym i) p;
})

-- what may be shown, may be shown by a wider notion too
pub shown-so : (shows more : Sheet → Type 0) (none never : Type 0) (t : Sheet) (old : Sent) (r : Result Bool TableError) (new : Sent)
    → ((shown : Sheet) → shows shown → more shown) → (none → never) → PrintsShown shows none t old r new → PrintsShown more never t old r new
shown-so shows more none never t old (Ok true) new f g h = record { shown = h.shown; is_shown = f h.shown h.is_shown; prints = h.prints }
shown-so shows more none never t old (Ok false) new f g h = (g h.0, h.1)
shown-so shows more none never t old (Err e) new f g h = ⊎_elim (λ early. inl early)
    (λ late. inr (record { shown = late.shown; is_shown = f late.shown late.is_shown; estimates = late.estimates; prints = late.prints })) h

-- one of the tables was sent
pub sent-shown : (shows : Sheet → Type 0) (none : Type 0) (t shown : Sheet) (estimates : Bool) (old new : Sent) → shows shown
    → Prints {T = Unit {0}} estimates shown old (Ok tt) new → PrintsShown shows none t old (Ok true) new
sent-shown shows none t shown estimates old new s p = record { shown = shown; is_shown = s; prints = p }

-- ---- results
-- an error that is passed on
pub error-only : {T : Type 0} (Q : TableError → Type 0) (r : Result T TableError) (e : TableError) → IsErrAnd r (λ d. d ≡ e) → Q e → IfErr r Q
error-only Q (Ok x) e i q = absurd i
error-only Q (Err d) e i q = subst Q (sym i) q

pub ok-so : {T : Type 0} (r : Result T TableError) (Q : Type 0) → Q → OnOk r Q
ok-so (Ok x) Q q = q
ok-so (Err d) Q q = tt

pub if-ok-so : {T : Type 0} (P Q : T → Type 0) (r : Result T TableError) → ((x : T) → P x → Q x) → IfOk r P → IfOk r Q
if-ok-so P Q (Ok x) f h = f x h
if-ok-so P Q (Err d) f h = tt

pub if-err-so : {T : Type 0} (P Q : TableError → Type 0) (r : Result T TableError) → ((e : TableError) → P e → Q e) → IfErr r P → IfErr r Q
if-err-so P Q (Ok x) f h = tt
if-err-so P Q (Err d) f h = f d h

-- ---- cells that are lent, new ones if there are any
pub lent-or : (r : Option (Bor (List (List (List ℕ))))) (d u : Bor (List (List (List ℕ)))) (o : Option (List (List (List ℕ)))) → option_copied r ≡ o
    → u ≡ unwrap_or r d → u.now ≡ unwrap_or o d.now
lent-or None d u o e h = ap (λ (b : Bor (List (List (List ℕ)))). b.now) h ∙ ap (λ k. unwrap_or k d.now) e
lent-or (Some x) d u o e h = ap (λ (b : Bor (List (List (List ℕ)))). b.now) h ∙ ap (λ k. unwrap_or k d.now) e

module _ (shows : Sheet → Type 0) (none : Type 0) (t : Sheet) (estimates : Bool) (config : SpannedConfig) (sizes : CompleteDimension) (lent cells : List (List (List ℕ)))
    (old new : Sent) (same : lent ≡ cells) (shown : shows (effective cells config sizes)) where
  pub stopped-cells : (r : Result Bool TableError) (e : TableError) → IsErrAnd r (λ d. d ≡ e) → Prints {T = Unit {0}} estimates (effective lent config sizes) old (Err e) new
      → PrintsShown shows none t old r new
  stopped-cells r e i p =
      stopped-printing shows none t (effective cells config sizes) estimates old r e new i shown
      (subst (λ k. Prints {T = Unit {0}} estimates (effective k config sizes) old (Err e) new) same p)

  pub sent-cells : Prints {T = Unit {0}} estimates (effective lent config sizes) old (Ok tt) new → PrintsShown shows none t old (Ok true) new
  sent-cells p = sent-shown shows none t (effective cells config sizes) estimates old new shown
      (subst (λ k. Prints {T = Unit {0}} estimates (effective k config sizes) old (Ok tt) new) same p)
