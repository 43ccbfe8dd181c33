-- Lists that are changed one after another, and tables that are truncated so.
use Rattle.tabled_extended.proofs.Names.{AllZip, Global, List, Vec, [], ap, append-nil, append_assoc, arith, get_or, length, length-append}
use Rattle.tabled_extended.proofs.Names.{length-map, length_push, map, map-id, refl, row_texts, suc, sym, zero, ℕ, ◌++◌, ◌+◌, ◌<◌, ◌∙◌, ◌∷◌}
use Rattle.tabled_extended.proofs.Names.{◌≡◌, Err, IsTruncated, Ok, OnOk, Option, Result, Some, if_sized, subst}
use Rattle.std.proofs.Math.Seq.{set-append_seam}
use Rattle.std.proofs.Math.ListN.{set}
use Rattle.std.proofs.lemmas.List.{map-set}
use Rattle.std.proofs.lemmas.List.Elements.{AllZip-push, length_all_zip}
use Rattle.tabled_extended.specs.Truncated.{AreTruncated, RecordTexts, StopsInList}
use Rattle.std.proofs.Common.{None}
use Rattle.tabled_extended.specs.declared.truncating.TextWidths.{TextWidths}

-- so many are changed, and the others stay
pub record ChangedSoFar {A : Type 0} (change : A → A → Type 0) (count : ℕ) (old new : List A) : Type 0 where
  pub before : List A
  pub changed : List A
  pub behind : List A
  pub each : AllZip change before changed
  pub old_list : old ≡ before ++ behind
  pub new_list : new ≡ changed ++ behind
  pub many : length changed ≡ count

pub so_far-none : {A : Type 0} (change : A → A → Type 0) (old : List A) → ChangedSoFar change 0 old old
so_far-none change old = record { before = []; changed = []; behind = old; each = tt; old_list = refl; new_list = refl; many = refl }

-- the next one is found behind those that are changed
record Next {A : Type 0} (new changed behind : List A) (x : A) : Type 0 where
  rest : List A
  found : behind ≡ x ∷ rest

at_seam : {A : Type 0} (changed rest : List A) (y : A) (count : ℕ) (d : A) → length changed ≡ count → get_or (changed ++ y ∷ rest) count d ≡ y
at_seam [] rest y count d m = ap (λ k. get_or (y ∷ rest) k d) (sym m)
at_seam (z ∷ changed) rest y count d m = ap (λ k. get_or (z ∷ changed ++ y ∷ rest) k d) (sym m) ∙ at_seam changed rest y (length changed) d refl

next : {A : Type 0} (new changed behind : List A) (count : ℕ) (x : A) → new ≡ changed ++ behind → length changed ≡ count → count < length new
    → x ≡ get_or new count x → Next new changed behind x
next new changed [] count x e m l i = absurd (omega (arith, ap length e, length-append changed [], m))
next new changed (y ∷ rest) count x e m l i = record {
  rest = rest;
  found = ap (λ z. z ∷ rest) (sym (i ∙ ap (λ l. get_or l count x) e ∙ at_seam changed rest y count x m));
}

replaced : {A : Type 0} (new changed rest new' : List A) (count : ℕ) (x y : A) → new ≡ changed ++ x ∷ rest → length changed ≡ count → new' ≡ set new count y
    → new' ≡ changed ++ y ∷ rest
replaced new changed rest new' count x y e m s =
    s ∙ ap (λ l. set l count y) e ∙ ap (λ k. set (changed ++ x ∷ rest) k y) (sym m) ∙ set-append_seam changed x rest y

pub so_far-more : {A : Type 0} {change : A → A → Type 0} {count : ℕ} {old new new' : List A} {x y : A} → ChangedSoFar change count old new
    → count < length new
    → x ≡ get_or new count x → change x y → new' ≡ set new count y → ChangedSoFar change (count + 1) old new'
so_far-more {A} {change} {count} {old} {new} {new'} {x} {y} h l i c s =
    let n = next new h.changed h.behind count x h.new_list h.many l i in
    let was : new ≡ h.changed ++ x ∷ n.rest = h.new_list ∙ ap (λ b. h.changed ++ b) n.found in
    let after = replaced new h.changed n.rest new' count x y was h.many s in
    record {
      before = h.before ++ x ∷ [];
      changed = h.changed ++ y ∷ [];
      behind = n.rest;
      each = AllZip-push change h.before h.changed x y h.each c;
      old_list = h.old_list ∙ ap (λ b. h.before ++ b) n.found ∙ sym (append_assoc h.before (x ∷ []) n.rest);
      new_list = after ∙ sym (append_assoc h.changed (y ∷ []) n.rest);
      many = length_push h.changed y ∙ ap (λ k. k + 1) h.many;
    }

pub so_far-stopped : {A : Type 0} {change : A → A → Type 0} (stop : A → A → Type 0) {count : ℕ} {old new new' : List A} {x y : A}
    → ChangedSoFar change count old new
    → count < length new → x ≡ get_or new count x → stop x y → new' ≡ set new count y → StopsInList change stop old new'
so_far-stopped {A} {change} stop {count} {old} {new} {new'} {x} {y} h l i c s =
    let n = next new h.changed h.behind count x h.new_list h.many l i in
    let was : new ≡ h.changed ++ x ∷ n.rest = h.new_list ∙ ap (λ b. h.changed ++ b) n.found in
    record {
      before = h.before;
      changed = h.changed;
      here = x;
      left = y;
      behind = n.rest;
      each = h.each;
      stopped = c;
      old_list = h.old_list ∙ ap (λ b. h.before ++ b) n.found;
      new_list = replaced new h.changed n.rest new' count x y was h.many s;
    }

no_rest : {A : Type 0} (changed behind : List A) (count : ℕ) → length changed ≡ count → length (changed ++ behind) ≡ count → behind ≡ []
no_rest changed [] count m e = refl
no_rest changed (x ∷ behind) count m e = absurd (omega (arith, length-append changed (x ∷ behind), m, e))

pub so_far-all : {A : Type 0} {change : A → A → Type 0} {count : ℕ} {old new : List A} → ChangedSoFar change count old new
    → length new ≡ count
    → AllZip change old new
so_far-all {count = count} {old = old} {new = new} h e =
    let none : h.behind ≡ [] = no_rest h.changed h.behind count h.many (ap length (sym h.new_list) ∙ e) in
    let was : old ≡ h.before = h.old_list ∙ ap (λ b. h.before ++ b) none ∙ append-nil h.before in
    let is : new ≡ h.changed = h.new_list ∙ ap (λ b. h.changed ++ b) none ∙ append-nil h.changed in
    rw (was, is) h.each

pub so_far-long : {A : Type 0} {change : A → A → Type 0} {count : ℕ} {old new : List A} → ChangedSoFar change count old new
    → length new ≡ length old
so_far-long {change = change} h =
    let same = length_all_zip change h.before h.changed h.each in
    ap length h.new_list ∙ length-append h.changed h.behind ∙ ap (λ n. n + length h.behind) (sym same)
    ∙ sym (length-append h.before h.behind) ∙ sym (ap length h.old_list)

-- ---- rows in vectors

pub row_texts-set : (rows : List (Vec (List ℕ) Global)) (i : ℕ) (row : Vec (List ℕ) Global) → row_texts (set rows i row) ≡ set (row_texts rows) i row.items
row_texts-set rows i row = map-set (λ (r : Vec (List ℕ) Global). map (λ t. t) r.items) rows i row ∙ ap (set (row_texts rows) i) (map-id row.items)

pub row_texts-read : (rows : List (Vec (List ℕ) Global)) (i : ℕ) (row : Vec (List ℕ) Global) → i < length rows → row ≡ get_or rows i row
    → row.items ≡ get_or (row_texts rows) i row.items
row_texts-read [] i row h e = absurd (omega (arith, h))
row_texts-read (r ∷ rows) zero row h e = ap (λ (v : Vec (List ℕ) Global). v.items) e ∙ sym (map-id r.items)
row_texts-read (r ∷ rows) (suc i) row h e = row_texts-read rows i row (omega (arith, h)) e

pub row_texts-long : (rows : List (Vec (List ℕ) Global)) → length (row_texts rows) ≡ length rows
row_texts-long rows = length-map rows (λ (r : Vec (List ℕ) Global). map (λ t. t) r.items)

-- ---- a table whose fields are truncated, or not

pub ok_both : {T E : Type 0} (r : Result T E) (suffix : List ℕ) (text_widths : TextWidths) (old new : RecordTexts)
    → AllZip (if_sized (IsTruncated suffix) text_widths.fields) old.fields new.fields
    → OnOk r (AllZip (AllZip (IsTruncated suffix text_widths.values)) old.records new.records) → OnOk r (AreTruncated suffix text_widths old new)
ok_both (Ok x) suffix text_widths old new f h = record { each_field = f; each_value = h }
ok_both (Err d) suffix text_widths old new f h = h

each_itself : (R : List ℕ → List ℕ → Type 0) → ((x : List ℕ) → R x x) → (xs : List (List ℕ)) → AllZip R xs xs
each_itself R f [] = tt
each_itself R f (x ∷ xs) = (f x, each_itself R f xs)

none_of : (room : Option ℕ) → ((n : ℕ) → room ≡ Some n → ⊥) → room ≡ None
none_of None h = refl
none_of (Some n) h = absurd (h n refl)

pub in_none : (change : ℕ → List ℕ → List ℕ → Type 0) (room : Option ℕ) → ((n : ℕ) → room ≡ Some n → ⊥) → (old : List (List ℕ))
    → AllZip (if_sized change room) old old
in_none change room none old =
    each_itself (if_sized change room) (λ x. subst (λ (o : Option ℕ). if_sized change o x x) (sym (none_of room none)) refl) old
