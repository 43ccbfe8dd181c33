-- Parts of values whose numbers can be written, and of lists.
use Rattle.std.proofs.Common.{◌≡◌, ℕ, zero, suc, ◌<◌, List, [], ◌∷◌, Option, Some, None, length, get_or, option_map, refl, arith}
use Rattle.std.specs.Prelude.{IfSome, unwrap_or}
use Rattle.std.specs.Borrow.{Bor}
use Rattle.csv.specs.Records.{field_at}
use Rattle.json.specs.Find.{at, get}
use Rattle.json.specs.Json.{Json}
use Rattle.json.specs.Tree.{HasNumbers, ItemsHaveNumbers}
use Rattle.json.specs.Value.{value_view, items_view}
use Rattle.json.specs.declared.value.Value.{Value}
use Rattle.json.proofs.Numbered.{HasNumbers-at, HasNumbers-get}

pub at-HasNumbers : {A : Type 0} (o : Option (Bor (Value A))) (i : ℕ) (j : Json) → HasNumbers j → option_map (λ (v : Bor (Value A)). value_view v.now) o ≡ at i j → IfSome o (λ v. HasNumbers (value_view v.now))
at-HasNumbers None i j h e = tt
at-HasNumbers (Some v) i j h e = HasNumbers-at i j (value_view v.now) h e

pub get-HasNumbers : {A : Type 0} (o : Option (Bor (Value A))) (name : List ℕ) (j : Json) → HasNumbers j → option_map (λ (v : Bor (Value A)). value_view v.now) o ≡ get name j → IfSome o (λ v. HasNumbers (value_view v.now))
get-HasNumbers None name j h e = tt
get-HasNumbers (Some v) name j h e = HasNumbers-get name j (value_view v.now) h e

pub item-HasNumbers : {A : Type 0} (xs : List (Value A)) (i : ℕ) (d : Value A) → ItemsHaveNumbers (items_view xs) → i < length xs → HasNumbers (value_view (get_or xs i d))
item-HasNumbers [] i d h b = absurd (omega arith)
item-HasNumbers (x ∷ xs) zero d h b = h.0
item-HasNumbers (x ∷ xs) (suc i) d h b = item-HasNumbers xs i d h.1 (omega arith)

pub field_at-get_or : (xs : List (List ℕ)) (i : ℕ) → i < length xs → field_at xs i ≡ Some (get_or xs i [])
unfolding field_at
field_at-get_or [] i b = absurd (omega arith)
field_at-get_or (x ∷ xs) zero b = refl
field_at-get_or (x ∷ xs) (suc i) b = field_at-get_or xs i (omega arith)

pub text-at : (o : Option (Bor (List ℕ))) (none name : Bor (List ℕ)) (text : List ℕ) → option_map (λ (s : Bor (List ℕ)). s.now) o ≡ Some text → name ≡ unwrap_or o none → name.now ≡ text
text-at None none name text e r = absurd (cc)
text-at (Some s) none name text e r = cc
