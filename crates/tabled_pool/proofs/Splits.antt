-- Where the vertical borders meet a horizontal one, size by size.
use Rattle.tabled_pool.proofs.Names.{List, Option, [], ap, append-nil, append_assoc, arith, encode_utf8, false, fill, flat_map, if◌then◌else◌, inl}
use Rattle.tabled_pool.proofs.Names.{inr, nat_tests, range_with_len, refl, run_char, run_text, sym, true, unwrap_or, ℕ, ⊎_elim, ◌++◌, ◌+◌, ◌-◌}
use Rattle.tabled_pool.proofs.Names.{◌<◌, ◌∙◌, ◌∷◌, ◌≡◌, ◌≤◌, ◌⊎◌}
use Rattle.std.specs.Prelude.{Err, IfOk, Ok, Result}
use Rattle.tabled_pool.specs.Inherited.{is_split}
use Rattle.tabled_pool.proofs.Runs.{copies, places_more, places_next}

pub split-none : (e : ℕ) (es : List ℕ) (left x : ℕ) → (left ≤ e) ⊎ (x < e) → is_split (e ∷ es) left x ≡ false
split-none e es left x h = grind (arith, nat_tests, h)

pub split-here : (e : ℕ) (es : List ℕ) (left : ℕ) → e < left → is_split (e ∷ es) left e ≡ true
split-here e es left h = grind (arith, nat_tests, h)

pub split-later : (e : ℕ) (es : List ℕ) (left x : ℕ) → e < left → e < x → is_split (e ∷ es) left x ≡ is_split es (left - e) (x - e - 1)
split-later e es left x h k = grind (arith, nat_tests, h, k)

-- the first columns of a run are written, and sizes are left for the others
pub record RunFrom (sizes : List ℕ) (width : ℕ) (split main : Option ℕ) (old line left : List ℕ) (size rest : ℕ) : Type 0 where
  pub within : rest ≤ width
  pub written : line ≡ old ++ flat_map (run_char sizes width split main) (range_with_len 0 (width - rest))
  pub same : (x : ℕ) → width - rest ≤ x → is_split sizes width x ≡ is_split left size (x - (width - rest))

pub run_start : (sizes : List ℕ) (width : ℕ) (split main : Option ℕ) (line : List ℕ) → RunFrom sizes width split main line line sizes width width
run_start sizes width split main line = record {
  within = omega arith;
  written = sym (ap (λ n. line ++ flat_map (run_char sizes width split main) (range_with_len 0 n)) (none width) ∙ append-nil line);
  same = λ x h. ap (is_split sizes width) (omega arith);
}
  where
    none : (n : ℕ) → n - n ≡ 0
    none n = omega arith

-- no border meets the columns that are left
plain_rest : (sizes : List ℕ) (width : ℕ) (split main : Option ℕ) (old line left : List ℕ) (size rest : ℕ)
    → RunFrom sizes width split main old line left size rest → ((x : ℕ) → x < rest → is_split left size x ≡ false)
    → (line' : List ℕ) → line' ≡ line ++ fill (unwrap_or main 32) rest → line' ≡ old ++ run_text sizes width split main
plain_rest sizes width split main old line left size rest r none line' e =
    let f = run_char sizes width split main in
    let a = width - rest in
    let all : width ≡ a + rest = omega (arith, r.within) in
    let c : flat_map f (range_with_len a rest) ≡ fill (unwrap_or main 32) rest =
    copies f (unwrap_or main 32) a rest (λ v l h.
    ap (λ b. encode_utf8 (unwrap_or (if b then split else main) 32)) (r.same v l ∙ none (v - a) (omega arith))) in
    e ∙ ap (λ u. u ++ fill (unwrap_or main 32) rest) r.written ∙ append_assoc old (flat_map f (range_with_len 0 a)) _
    ∙ ap (λ u. old ++ (flat_map f (range_with_len 0 a) ++ u)) (sym c) ∙ ap (λ u. old ++ u) (sym (places_more f a rest))
    ∙ ap (λ w. old ++ flat_map f (range_with_len 0 w)) (sym all)

pub run_ended : (sizes : List ℕ) (width : ℕ) (split main : Option ℕ) (old line : List ℕ) (size rest : ℕ)
    → RunFrom sizes width split main old line [] size rest
    → (line' : List ℕ) → line' ≡ line ++ fill (unwrap_or main 32) rest → line' ≡ old ++ run_text sizes width split main
run_ended sizes width split main old line size rest r = plain_rest sizes width split main old line [] size rest r (λ x h. refl)

pub run_stopped : (sizes : List ℕ) (width : ℕ) (split main : Option ℕ) (old line : List ℕ) (e : ℕ) (left : List ℕ) (size rest : ℕ)
    → RunFrom sizes width split main old line (e ∷ left) size rest → (size ≤ e) ⊎ (rest ≤ e)
    → (line' : List ℕ) → line' ≡ line ++ fill (unwrap_or main 32) rest → line' ≡ old ++ run_text sizes width split main
run_stopped sizes width split main old line e left size rest r h =
    plain_rest sizes width split main old line (e ∷ left) size rest r (λ x l. split-none e left size x
    (⊎_elim (λ a. inl a) (λ b. inr (omega arith)) h))

pub run_further : (sizes : List ℕ) (width : ℕ) (split main : Option ℕ) (old line : List ℕ) (e : ℕ) (left : List ℕ) (size rest : ℕ)
    → RunFrom sizes width split main old line (e ∷ left) size rest → e < size → e < rest
    → (line' line'' : List ℕ) → line' ≡ line ++ fill (unwrap_or main 32) e → line'' ≡ line' ++ encode_utf8 (unwrap_or split 32)
    → RunFrom sizes width split main old line'' left (size - e) (rest - e - 1)
run_further sizes width split main old line e left size rest r h k line' line'' e1 e2 =
    let f = run_char sizes width split main in
    let a = width - rest in
    let next : width - (rest - e - 1) ≡ a + e + 1 = omega (arith, r.within, k) in
    let c : flat_map f (range_with_len a e) ≡ fill (unwrap_or main 32) e =
    copies f (unwrap_or main 32) a e (λ v l m.
    ap (λ b. encode_utf8 (unwrap_or (if b then split else main) 32)) (r.same v l ∙ split-none e left size (v - a) (inr (omega arith)))) in
    let at : a + e - a ≡ e = omega arith in
    let d : f (a + e) ≡ encode_utf8 (unwrap_or split 32) =
    ap (λ b. encode_utf8 (unwrap_or (if b then split else main) 32))
    (r.same (a + e) (omega arith) ∙ ap (is_split (e ∷ left) size) at ∙ split-here e left size h) in
    record {
      within = omega (arith, r.within);
      written = e2 ∙ ap (λ u. u ++ encode_utf8 (unwrap_or split 32)) (e1 ∙ ap (λ u. u ++ fill (unwrap_or main 32) e) r.written)
          ∙ ap (λ u. ((old ++ flat_map f (range_with_len 0 a)) ++ fill (unwrap_or main 32) e) ++ u) (sym d)
          ∙ ap (λ u. ((old ++ flat_map f (range_with_len 0 a)) ++ u) ++ f (a + e)) (sym c)
          ∙ pieces old (flat_map f (range_with_len 0 a)) (flat_map f (range_with_len a e)) (f (a + e))
          ∙ ap (λ u. old ++ u) (sym (places_more f a (e + 1) ∙ ap (λ u. flat_map f (range_with_len 0 a) ++ u) (places_next f a e (f (a + e)) refl)))
          ∙ ap (λ n. old ++ flat_map f (range_with_len 0 n)) (omega (arith, next));
      same = λ x m.
          let here : x - (width - (rest - e - 1)) ≡ x - a - e - 1 = omega (arith, next) in
          let past : e < x - a = omega (arith, next) in
          r.same x (omega (arith, next)) ∙ split-later e left size (x - a) h past ∙ ap (is_split left (size - e)) (sym here);
    }
  where
    pieces : (a b c d : List ℕ) → ((a ++ b) ++ c) ++ d ≡ a ++ (b ++ (c ++ d))
    pieces a b c d = simp append_assoc

pub when_ok : {T E P Q : Type 0} (r : Result T E) → (P → Q) → IfOk r (λ _. P) → IfOk r (λ _. Q)
when_ok (Ok x) f h = f h
when_ok (Err e) f h = tt
