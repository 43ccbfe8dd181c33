-- Texts that are sent one after another.
use Rattle.tabled_line.proofs.Names.{Appends, Bool, Err, IsErrAnd, Keeps, List, Memory, Narrow, None, Ok, Option, Range, Result, Sends}
use Rattle.tabled_line.proofs.Names.{Sent, ShortHeights, ShortWidths, Some, Stops, TableError, Took, Writer, Writes, [], ap, append-nil}
use Rattle.tabled_line.proofs.Names.{append_assoc, arith, common_steps, drop, false, inl, inr, refl, subst, sym, take, take-append-drop}
use Rattle.tabled_line.proofs.Names.{true, ℕ, ⊎_elim, ◌++◌, ◌∙◌, ◌≡◌, ◌≤◌}
use Rattle.std.proofs.Common.{is_ok}
use Rattle.tabled_line.specs.Sent.{Rose, IsCause}

pub Appends-nil : (a b : Option (List ℕ)) → Keeps a b → Appends a b []
Appends-nil None b h = tt
Appends-nil (Some xs) None h = h
Appends-nil (Some xs) (Some ys) h = h ∙ sym (append-nil xs)

pub Keeps-same : (a : Option (List ℕ)) → Keeps a a
Keeps-same None = tt
Keeps-same (Some xs) = refl

pub Appends-then : (a b c : Option (List ℕ)) (s t : List ℕ) → Appends a b s → Appends b c t → Appends a c (s ++ t)
Appends-then None b c s t p q = tt
Appends-then (Some xs) None c s t p q = absurd p
Appends-then (Some xs) (Some ys) None s t p q = q
Appends-then (Some xs) (Some ys) (Some zs) s t p q = grind (arith, common_steps)

pub sends-none : (a : Sent) → Sends a a []
sends-none a = record { added = Appends-nil a.bytes a.bytes (Keeps-same a.bytes); counted = omega arith; alike = refl }

pub sends-then : (a b c : Sent) (s t : List ℕ) → Sends a b s → Sends b c t → Sends a c (s ++ t)
sends-then a b c s t p q =
    record { added = Appends-then a.bytes b.bytes c.bytes s t p.added q.added; counted = (let m = p.counted in let n = q.counted in omega arith); alike = q.alike ∙ p.alike }

-- a count that rose later rose from an earlier one
rose-then : (m n o : ℕ) → m ≤ n → Rose n o → Rose m o
rose-then m n o l r = ⊎_elim (λ h. inl (omega arith)) (λ h. inr h) r

cause-then : (e : TableError) (g h : Bool) (m n o : ℕ) → h ≡ g → m ≤ n → IsCause e h n o → IsCause e g m o
cause-then Memory g h m n o s l c = (sym s ∙ c.0, (let later = c.1 in omega arith))
cause-then Writer g h m n o s l c = rose-then m n o l c
cause-then ShortWidths g h m n o s l c = absurd c
cause-then ShortHeights g h m n o s l c = absurd c
cause-then (Narrow row column) g h m n o s l c = absurd c
cause-then Range g h m n o s l c = absurd c

-- a refusal after s was sent
pub stops-then : (a b c : Sent) (e : TableError) (s t : List ℕ) → Sends a b s → Stops b e c t → Stops a e c (s ++ t)
stops-then a b c e s t p q =
    record {
      front = s ++ q.front;
      rest = q.rest;
      whole = append_assoc s q.front q.rest ∙ ap (λ u. s ++ u) q.whole;
      added = Appends-then a.bytes b.bytes c.bytes s q.front p.added q.added;
      cause = cause-then e a.grows b.grows a.failures b.failures c.failures p.alike p.counted q.cause;
    }

-- a refusal in a text is one in a longer text
pub stops-more : (a b : Sent) (e : TableError) (s t : List ℕ) → Stops a e b s → Stops a e b (s ++ t)
stops-more a b e s t p = record {
  front = p.front;
  rest = p.rest ++ t;
  whole = sym (append_assoc p.front p.rest t) ∙ ap (λ u. u ++ t) p.whole;
  added = p.added;
  cause = p.cause;
}

pub took-none : (a : Sent) (text : List ℕ) → Took a a text text
took-none a text = record { front = []; whole = refl; sends = sends-none a }

pub took-more : (a b c : Sent) (text rest next : List ℕ) (n : ℕ) → Took a b text rest → Sends b c (take n rest) → next ≡ drop n rest → Took a c text next
took-more a b c text rest next n p q e = record {
  front = p.front ++ take n rest;
  whole = append_assoc p.front (take n rest) next ∙ ap (λ u. p.front ++ (take n rest ++ u)) e ∙ ap (λ u. p.front ++ u) (take-append-drop n rest) ∙ p.whole;
  sends = sends-then a b c p.front (take n rest) p.sends q;
}

pub sends-along : (a b : Sent) (s t : List ℕ) → Sends a b s → s ≡ t → Sends a b t
sends-along a b s t p e = let P : List ℕ → Type 0 = λ u. Sends a b u in subst P e p

-- ---- for a function that prints in steps: s went out before the step, which prints t

-- the step went through
pub further : {a b c : Sent} {s t whole : List ℕ} → Sends a b s → Sends b c t → whole ≡ s ++ t → Sends a c whole
further {a} {b} {c} {s} {t} {whole} p q e = sends-along a c (s ++ t) whole (sends-then a b c s t p q) (sym e)

-- the step is the last
pub finished : {T : Type 0} {a b : Sent} {s : List ℕ} (c : Sent) (t whole : List ℕ) (r : Result T TableError) → Sends a b s → Writes b r c t → whole ≡ s ++ t → Writes a r c whole
finished c t whole (Ok x) p q e = further p q e
finished {T} {a} {b} {s} c t whole (Err d) p q e =
    let P : List ℕ → Type 0 = λ u. Stops a d c u in subst P (sym e) (stops-then a b c d s t p q)

-- the step was refused, and so is the function; rest is what would have come
pub stopped : {T : Type 0} {a b c : Sent} {s t whole : List ℕ} (r : Result T TableError) (e : TableError) (rest : List ℕ) → Sends a b s → Stops b e c t → IsErrAnd r (λ d. d ≡ e) → whole ≡ s ++ (t ++ rest) → Writes a r c whole
stopped (Ok x) e rest p q h w = absurd h
stopped {T} {a} {b} {c} {s} {t} {whole} (Err d) e rest p q h w =
    let P : List ℕ → Type 0 = λ u. Stops a d c u in
    let Q : TableError → Type 0 = λ x. Stops a x c (s ++ (t ++ rest)) in
    subst P (sym w) (subst Q (sym h) (stops-then a b c e s (t ++ rest) p (stops-more b c e t rest q)))

-- the first step was refused
pub stopped-first : {T : Type 0} {a c : Sent} {t whole : List ℕ} (r : Result T TableError) (e : TableError) (rest : List ℕ) → Stops a e c t → IsErrAnd r (λ d. d ≡ e) → whole ≡ t ++ rest → Writes a r c whole
stopped-first {T} {a} r e rest q h w = stopped r e rest (sends-none a) q h w

-- the step that returned `Ok`
pub sent-ok : {T : Type 0} {a b : Sent} {text : List ℕ} (r : Result T TableError) → is_ok r ≡ true → Writes a r b text → Sends a b text
sent-ok (Ok x) ok p = p
sent-ok (Err e) ok p = let no : false ≡ true = ok in cc
