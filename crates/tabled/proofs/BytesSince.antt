-- A writer that stays the same, and keeps what it held, while a sink stands before it.
use Rattle.tabled.proofs.Names.{Advances, Appends, Appends-nil, Begins, Block, Bool, Err, IfSome, IsCause, IsPartlyWritten, Keeps, List}
use Rattle.tabled.proofs.Names.{None, Ok, OnOk, Option, Puts, Result, Sends, Sent, Some, TableError, Writer, Writes, [], ap, append-nil}
use Rattle.tabled.proofs.Names.{append_assoc, arith, block_sent, drop, false, if◌then◌else◌, inl, inr, length, nat_tests, refl, sent_since}
use Rattle.tabled.proofs.Names.{subst, sym, take, true, ℕ, ⊎_elim, ◌++◌, ◌+◌, ◌==◌, ◌∙◌, ◌∷◌, ◌≡◌, ◌≤◌}
use Rattle.std.proofs.Common.{◌&&◌}
use Rattle.std.proofs.lemmas.Bool.{and_from}
use Rattle.std.proofs.lemmas.List.{append_cancel_left, drop-append-le, length-take-le, take-append-drop, take-take}
use Rattle.std.specs.Io.KnownBytes.{append_known}
use Rattle.tabled_line.specs.Sent.{Rose, Stops}
use Rattle.tabled_line.proofs.Sending.{Appends-then, Keeps-same}
use Rattle.tabled.specs.BlockSent.{begins, since}
use Rattle.std.proofs.Math.Seq.{take-append-add, take-append_seam}

-- ---- bytes that wait behind a writer

-- the writer took n bytes of what waited
pub handed_over : (a b : Option (List ℕ)) (waiting : List ℕ) (n : ℕ) → Appends a b (take n waiting)
    → Appends (append_known a waiting) (append_known b (drop n waiting)) []
handed_over None b waiting n h = tt
handed_over (Some xs) None waiting n h = h
handed_over (Some xs) (Some ys) waiting n h =
    ap (λ u. u ++ drop n waiting) h ∙ append_assoc xs (take n waiting) (drop n waiting)
    ∙ ap (λ u. xs ++ u) (take-append-drop n waiting) ∙ sym (append-nil (xs ++ waiting))

-- it took none
pub kept_waiting : (a b : Option (List ℕ)) (waiting : List ℕ) → Keeps a b → Appends (append_known a waiting) (append_known b waiting) []
kept_waiting None b waiting h = tt
kept_waiting (Some xs) None waiting h = h
kept_waiting (Some xs) (Some ys) waiting h = ap (λ u. u ++ waiting) h ∙ sym (append-nil (xs ++ waiting))

-- nothing waited before, and nothing waits now: the writer took all
pub delivered : (a b : Option (List ℕ)) (before behind text : List ℕ) → before ≡ [] → behind ≡ []
    → Appends (append_known a before) (append_known b behind) text → Appends a b text
delivered None b before behind text e f h = tt
delivered (Some xs) None before behind text e f h = h
delivered (Some xs) (Some ys) before behind text e f h =
    sym (append-nil ys) ∙ ap (λ u. ys ++ u) (sym f) ∙ h ∙ ap (λ u. (xs ++ u) ++ text) e ∙ ap (λ u. u ++ text) (append-nil xs)

-- bytes that were copied behind those that are used wait behind the others
pub held_more : (taken used size : ℕ) (items place more copied rest tail : List ℕ) → taken ≤ used → used ≤ length place → used + length more ≤ size
    → place ≡ items → copied ≡ more
    → drop taken (take (used + length more) (take size ((take used place ++ (copied ++ rest)) ++ tail))) ≡ drop taken (take used items) ++ more
held_more taken used size items place more copied rest tail t u v e f =
    let front = take used place in
    let long : length front ≡ used = length-take-le used place u in
    let whole : take (used + length more) (front ++ (more ++ (rest ++ tail))) ≡ front ++ more =
    ap (λ n. take (n + length more) (front ++ (more ++ (rest ++ tail)))) (sym long) ∙ take-append-add front (more ++ (rest ++ tail)) (length more)
    ∙ ap (λ w. front ++ w) (take-append_seam more (rest ++ tail)) in
    let same : (front ++ (copied ++ rest)) ++ tail ≡ front ++ (more ++ (rest ++ tail)) =
    append_assoc front (copied ++ rest) tail ∙ ap (λ w. front ++ w) (append_assoc copied rest tail) ∙ ap (λ c. front ++ (c ++ (rest ++ tail))) f in
    ap (drop taken) (take-take (used + length more) size ((front ++ (copied ++ rest)) ++ tail) v ∙ ap (take (used + length more)) same ∙ whole)
    ∙ drop-append-le taken front more (omega (arith, long)) ∙ ap (λ p. drop taken (take used p) ++ more) e

-- ---- a writer that stays the same

pub advances_none : (a : Block) → Advances a a
advances_none a = record { same = refl; more = []; added = Appends-nil a.contents a.contents (Keeps-same a.contents) }

pub advances_then : (a b c : Block) → Advances a b → Advances b c → Advances a c
advances_then a b c p q = record {
  same = q.same ∙ p.same;
  more = p.more ++ q.more;
  added = Appends-then a.contents b.contents c.contents p.more q.more p.added q.added;
}

-- bytes that were buffered behind the others
known_more : (c : Option (List ℕ)) (waits text : List ℕ) → Appends (append_known c waits) (append_known c (waits ++ text)) text
known_more None waits text = tt
known_more (Some xs) waits text = sym (append_assoc xs waits text)

pub buffered : (a : Block) (waits text : List ℕ) → waits ≡ a.waiting ++ text → Sends (block_sent a) (block_sent (record a { waiting = waits })) text
buffered a waits text e =
    let P : List ℕ → Type 0 = λ w. Sends (block_sent a) (block_sent (record a { waiting = w })) text in
    subst P (sym e) (record { added = known_more a.contents a.waiting text; counted = omega arith; alike = refl })

pub waits : (a : Block) (more : List ℕ) → Advances a (record a { waiting = more })
waits a more = record { same = refl; more = []; added = Appends-nil a.contents a.contents (Keeps-same a.contents) }

-- ---- beginnings

both_true : (a b : Bool) → (a && b) ≡ true → (a ≡ true) × (b ≡ true)
both_true true b h = (refl, h)
both_true false b h = let bad : ⊥ = cc in absurd bad

begins_self : (xs : List ℕ) → begins xs xs ≡ true
begins_self [] = refl
begins_self (x ∷ xs) = and_from (x == x) (begins xs xs) (grind (arith, nat_tests)) (begins_self xs)

begins_more : (xs ys zs : List ℕ) → begins xs ys ≡ true → begins xs (ys ++ zs) ≡ true
begins_more [] ys zs h = refl
begins_more (x ∷ xs) [] zs h = let bad : ⊥ = cc in absurd bad
begins_more (x ∷ xs) (y ∷ ys) zs h =
    let (first, rest) = both_true (x == y) (begins xs ys) h in
    and_from (x == y) (begins xs (ys ++ zs)) first (begins_more xs ys zs rest)

begins_rest : (xs ys : List ℕ) → begins xs ys ≡ true → (rest : List ℕ) × (ys ≡ xs ++ rest)
begins_rest [] ys h = (ys, refl)
begins_rest (x ∷ xs) [] h = let bad : ⊥ = cc in absurd bad
begins_rest (x ∷ xs) (y ∷ ys) h =
    let (first, behind) = both_true (x == y) (begins xs ys) h in
    let (rest, e) = begins_rest xs ys behind in
    let same : y ≡ x = grind (arith, nat_tests) in
    (rest, ap (λ u. u ∷ ys) same ∙ ap (λ u. x ∷ u) e)

-- ---- through a sink whose bytes are known since a start

kept_test : (start : ℕ) (held : List ℕ) (na nb : ℕ) (xs ys more : List ℕ) → nb ≡ na → ys ≡ xs ++ more
    → ((start == na) && begins held xs) ≡ true → ((start == nb) && begins held ys) ≡ true
kept_test start held na nb xs ys more e w h =
    let (name, front) = both_true (start == na) (begins held xs) h in
    and_from (start == nb) (begins held ys) (ap (λ n. start == n) e ∙ name) (ap (λ u. begins held u) w ∙ begins_more held xs more front)

tested : (t u : Bool) (xs ys wa wb text : List ℕ) → (t ≡ true → u ≡ true)
    → Appends (append_known (Some xs) wa) (append_known (Some ys) wb) text
    → Appends (append_known (if t then Some xs else None) wa) (append_known (if u then Some ys else None) wb) text
tested false u xs ys wa wb text i h = tt
tested true true xs ys wa wb text i h = h
tested true false xs ys wa wb text i h = let never : false ≡ true = i refl in let bad : ⊥ = cc in absurd bad

since_appends : (start : ℕ) (held : List ℕ) (na nb : ℕ) (ca cb : Option (List ℕ)) (wa wb text more : List ℕ) → nb ≡ na
    → Appends ca cb more → Appends (append_known ca wa) (append_known cb wb) text
    → Appends (append_known (since start held na ca) wa) (append_known (since start held nb cb) wb) text
since_appends start held na nb None cb wa wb text more e p h = tt
since_appends start held na nb (Some xs) None wa wb text more e p h = absurd p
since_appends start held na nb (Some xs) (Some ys) wa wb text more e p h =
    tested ((start == na) && begins held xs) ((start == nb) && begins held ys) xs ys wa wb text (kept_test start held na nb xs ys more e p) h

-- a text that a block takes is taken so
pub since_writes : {T : Type 0} (start : ℕ) (held : List ℕ) (a b : Block) (r : Result T TableError) (text : List ℕ)
    → Writes (block_sent a) r (block_sent b) text → Advances a b
    → Writes (sent_since start held a) r (sent_since start held b) text
since_writes start held a b (Ok x) text h p =
    record {
      added = since_appends start held a.name b.name a.contents b.contents a.waiting b.waiting text p.more
          p.same p.added h.added;
      counted = h.counted;
      alike = refl;
    }
since_writes start held a b (Err e) text h p = record {
  front = h.front;
  rest = h.rest;
  whole = h.whole;
  added = since_appends start held a.name b.name a.contents b.contents a.waiting b.waiting h.front p.more p.same p.added h.added;
  cause = h.cause;
}

-- ---- and back

-- a writer that is still the one of the start
record Still (start : ℕ) (held : List ℕ) (name : ℕ) (c : Option (List ℕ)) : Type 0 where
  is : name ≡ start
  more : List ℕ
  holds : Appends (Some held) c more
  known : since start held name c ≡ c

still_if : (start : ℕ) (held : List ℕ) (name : ℕ) (xs ys w text : List ℕ) (t : Bool) → t
    ≡ ((start == name) && begins held ys) → Appends (Some xs) (append_known (if t then Some ys else None) w) text → Still start held name (Some ys)
still_if start held name xs ys w text true e h =
    let (first, front) = both_true (start == name) (begins held ys) (sym e) in
    let (rest, whole) = begins_rest held ys front in
    record { is = grind (arith, nat_tests); more = rest; holds = whole; known = ap (λ t. if t then Some ys else None) (sym e) }
still_if start held name xs ys w text false e h = absurd h

still : (start : ℕ) (held : List ℕ) (name : ℕ) (c : Option (List ℕ)) (xs w text : List ℕ)
    → Appends (Some xs) (append_known (since start held name c) w) text → Still start held name c
still start held name None xs w text h = absurd h
still start held name (Some ys) xs w text h = still_if start held name xs ys w text ((start == name) && begins held ys) refl h

-- what a block leaves that was known at the start
pub record Left {T E : Type 0} (na nb : ℕ) (ca cb : Option (List ℕ)) (wa wb : List ℕ) (r : Result T E) (text : List ℕ) : Type 0 where
  pub put : Puts (append_known ca wa) r (append_known cb wb) text
  pub advanced : IfSome ca (λ _. (nb ≡ na) × ((more : List ℕ) × Appends ca cb more))

left_ok : (start : ℕ) (held : List ℕ) (nb : ℕ) (cb : Option (List ℕ)) (xs wb text : List ℕ) → Still start held nb cb
    → Appends (Some xs) (append_known (since start held nb cb) wb) text → Appends (Some xs) (append_known cb wb) text
left_ok start held nb cb xs wb text s h =
    let P : Option (List ℕ) → Type 0 = λ c. Appends (Some xs) (append_known c wb) text in subst P s.known h

left_some : {T E : Type 0} (start : ℕ) (held : List ℕ) (na nb : ℕ) (cb : Option (List ℕ)) (wa wb : List ℕ)
    (r : Result T E) (text : List ℕ) → na ≡ start → Puts (Some (held ++ wa)) r
    (append_known (since start held nb cb) wb) text → Left na nb (Some held) cb wa wb r text
left_some start held na nb cb wa wb (Ok x) text e h =
    let s = still start held nb cb (held ++ wa) wb text h in
    record { put = left_ok start held nb cb (held ++ wa) wb text s h; advanced = (s.is ∙ sym e, (s.more, s.holds)) }
left_some start held na nb cb wa wb (Err d) text e h =
    let s = still start held nb cb (held ++ wa) wb h.front h.added in
    record {
      put = record { front = h.front; rest = h.rest; whole = h.whole; added = left_ok start held nb cb (held ++ wa) wb h.front s h.added };
      advanced = (s.is ∙ sym e, (s.more, s.holds));
    }

start_known : (start : ℕ) (held : List ℕ) (na : ℕ) → na ≡ start → since start held na (Some held) ≡ Some held
start_known start held na e =
    ap (λ t. if t then Some held else None) (and_from (start == na) (begins held held) (grind (arith, nat_tests)) (begins_self held))

left_none : {T E : Type 0} (new : Option (List ℕ)) (r : Result T E) (text : List ℕ) → Puts None r new text
left_none new (Ok x) text = tt
left_none new (Err e) text = record { front = []; rest = text; whole = refl; added = tt }

left_all : {T E : Type 0} (start : ℕ) (held : List ℕ) (na nb : ℕ) (ca cb : Option (List ℕ)) (wa wb : List ℕ)
    (r : Result T E) (text : List ℕ) → na ≡ start → IfSome ca (λ xs. xs ≡ held)
    → Puts (append_known (since start held na ca) wa) r (append_known (since start held nb cb) wb) text → Left na nb ca cb wa wb r text
left_all start held na nb None cb wa wb r text e k h = record { put = left_none (append_known cb wb) r text; advanced = tt }
left_all {T} {E} start held na nb (Some xs) cb wa wb r text e k h =
    let P : Option (List ℕ) → Type 0 = λ c. Puts (append_known c wa) r (append_known (since start held nb cb) wb) text in
    let Q : List ℕ → Type 0 = λ u. Puts (append_known (since start held na (Some u)) wa) r (append_known (since start held nb cb) wb) text in
    let R : List ℕ → Type 0 = λ u. Left {T = T} {E = E} na nb (Some u) cb wa wb r text in
    subst R (sym k) (left_some start held na nb cb wa wb r text e (subst P (start_known start held na e) (subst Q k h)))

pub left : {T E : Type 0} (start : ℕ) (held : List ℕ) (a b : Block) (r : Result T E) (text : List ℕ) → a.name ≡ start
    → IfSome a.contents (λ xs. xs ≡ held)
    → Puts (sent_since start held a).bytes r (sent_since start held b).bytes text
    → Left a.name b.name a.contents b.contents a.waiting b.waiting r text
left start held a b r text e k h = left_all start held a.name b.name a.contents b.contents a.waiting b.waiting r text e k h

along : {A : Type 0} {P Q : Type 0} (o : Option A) → (P → Q) → IfSome o (λ _. P) → IfSome o (λ _. Q)
along None f h = tt
along (Some x) f h = f h

pub left_advances : {T E : Type 0} (a b : Block) (r : Result T E) (text : List ℕ)
    → Left a.name b.name a.contents b.contents a.waiting b.waiting r text → IfSome a.contents (λ _. Advances a b)
left_advances a b r text h = along a.contents (λ k. record { same = k.0; more = k.1.0; added = k.1.1 }) h.advanced

-- ---- what the writer has in the end

begun : (ca cb : Option (List ℕ)) (wa wb text front rest more : List ℕ) → wa ≡ [] → Appends ca cb more
    → Appends (append_known ca wa) (append_known cb wb) front → front ++ rest ≡ text → Begins ca cb text
begun None cb wa wb text front rest more e p h w = record { front = []; rest = text; whole = refl; added = tt }
begun (Some xs) None wa wb text front rest more e p h w = absurd p
begun (Some xs) (Some ys) wa wb text front rest more e p h w =
    let joined : xs ++ (more ++ wb) ≡ xs ++ front =
    sym (append_assoc xs more wb) ∙ ap (λ u. u ++ wb) (sym p) ∙ h ∙ ap (λ u. (xs ++ u) ++ front) e ∙ ap (λ u. u ++ front) (append-nil xs) in
    let cancelled : more ++ wb ≡ front = append_cancel_left xs (more ++ wb) front joined in
    record { front = more; rest = wb ++ rest; whole = sym (append_assoc more wb rest) ∙ ap (λ u. u ++ rest) cancelled ∙ w; added = p }

-- ---- a writer that fails

-- a writer failed that had taken what was handed to it before
pub failed : (a : Sent) (cb cc : Option (List ℕ)) (w : List ℕ) (f : ℕ) (d : Sent) (e : TableError)
    → Sends a (record { bytes = append_known cb w; failures = f; grows = true }) [] → Keeps cb cc
    → d.bytes ≡ append_known cc w → Rose f d.failures → e ≡ Writer → Stops a e d []
failed a cb cc w f d e p keeps same rose is =
    let P : Option (List ℕ) → Type 0 = λ u. Appends (append_known cb w) u [] in
    let Q : TableError → Type 0 = λ k. IsCause k a.grows a.failures d.failures in
    let count = p.counted in
    record {
      front = [];
      rest = [];
      whole = refl;
      added = Appends-then a.bytes (append_known cb w) d.bytes [] [] p.added (subst P (sym same) (kept_waiting cb cc w keeps));
      cause = subst Q (sym is) (⊎_elim (λ h. inl (omega arith)) (λ h. inr h) rose);
    }

-- a writer took n bytes of what waited
pub took : (a b : Option (List ℕ)) (old buffer new : List ℕ) (n : ℕ) → buffer ≡ old → new ≡ drop n old
    → Appends a b (take n buffer) → Appends (append_known a old) (append_known b new) []
took a b old buffer new n e w h =
    let P : List ℕ → Type 0 = λ u. Appends a b (take n u) in
    let Q : List ℕ → Type 0 = λ u. Appends (append_known a old) (append_known b u) [] in
    subst Q (sym w) (handed_over a b old n (subst P e h))

-- ---- texts and their beginnings

pub puts_writes : {T : Type 0} (a b : Sent) (r : Result T TableError) (text : List ℕ) → Writes a r b text → Puts a.bytes r b.bytes text
puts_writes a b (Ok x) text h = h.added
puts_writes a b (Err e) text h = record { front = h.front; rest = h.rest; whole = h.whole; added = h.added }

pub begun_none : (c : Option (List ℕ)) (text : List ℕ) → Begins c c text
begun_none c text = record { front = []; rest = text; whole = refl; added = Appends-nil c c (Keeps-same c) }

-- ---- the writer in the end, whose reference is known by its name

ended : (na nb : ℕ) (ca cb cf : Option (List ℕ)) (wa wb text front rest : List ℕ) → wa ≡ [] → IfSome ca
    (λ _. (nb ≡ na) × ((more : List ℕ) × Appends ca cb more)) → (nb ≡ na → cf ≡ cb)
    → Appends (append_known ca wa) (append_known cb wb) front → front ++ rest ≡ text → Begins ca cf text
ended na nb None cb cf wa wb text front rest e p k h w = record { front = []; rest = text; whole = refl; added = tt }
ended na nb (Some xs) cb cf wa wb text front rest e p k h w =
    let P : Option (List ℕ) → Type 0 = λ c. Begins (Some xs) c text in
    subst P (sym (k p.0)) (begun (Some xs) cb wa wb text front rest p.1.0 e p.1.1 h w)

ended_block : (a b : Block) (cf : Option (List ℕ)) (text front rest : List ℕ) → a.waiting ≡ [] → IfSome a.contents
    (λ _. Advances a b) → (b.name ≡ a.name → cf ≡ b.contents)
    → Appends (append_known a.contents a.waiting) (append_known b.contents b.waiting) front → front ++ rest ≡ text → Begins a.contents cf text
ended_block a b cf text front rest e p k h w =
    ended a.name b.name a.contents b.contents cf a.waiting b.waiting text front rest e (along a.contents (λ q. (q.same, (q.more, q.added))) p) k h w

-- where a sink refused
pub ended_begun : {T E : Type 0} (a b : Block) (cf : Option (List ℕ)) (r : Result T E) (text : List ℕ) → a.waiting
    ≡ [] → Puts (block_sent a).bytes r (block_sent b).bytes text → IfSome a.contents (λ _. Advances a b)
    → (b.name ≡ a.name → cf ≡ b.contents) → Begins a.contents cf text
ended_begun a b cf (Ok x) text e h p k = ended_block a b cf text text [] e p k h (append-nil text)
ended_begun a b cf (Err d) text e h p k = ended_block a b cf text h.front h.rest e p k h.added h.whole

exact : (ca cb cf : Option (List ℕ)) (text : List ℕ) → Appends ca cb text → IfSome ca (λ _. cf ≡ cb) → Appends ca cf text
exact None cb cf text h k = tt
exact (Some xs) cb cf text h k = let P : Option (List ℕ) → Type 0 = λ c. Appends (Some xs) c text in subst P (sym k) h

-- where it took all, and what waited was handed over then
pub ended_put : {T : Type 0} (a b d : Block) (cf : Option (List ℕ)) (r : Result T TableError) (text : List ℕ)
    → a.waiting ≡ [] → Appends (block_sent a).bytes (block_sent b).bytes text → IfSome a.contents (λ _. Advances a b)
    → Writes (block_sent b) r (block_sent d) [] → Advances b d → OnOk r (d.waiting ≡ [])
    → (d.name ≡ a.name → cf ≡ d.contents) → Puts a.contents r cf text
ended_put a b d cf (Ok x) text e h p q m o k =
    let both : Appends (block_sent a).bytes (block_sent d).bytes (text ++ []) = Appends-then (block_sent a).bytes
    (block_sent b).bytes (block_sent d).bytes text [] h q.added in
    let P : List ℕ → Type 0 = λ u. Appends (block_sent a).bytes (block_sent d).bytes u in
    exact a.contents d.contents cf text
    (delivered a.contents d.contents a.waiting d.waiting text e o (subst P (append-nil text) both))
    (along a.contents (λ adv. k (m.same ∙ adv.same)) p)
ended_put a b d cf (Err x) text e h p q m o k =
    ended_block a d cf text (text ++ q.front) q.rest e (along a.contents (λ adv. advances_then a b d adv m) p) k
    (Appends-then (block_sent a).bytes (block_sent b).bytes (block_sent d).bytes text q.front h q.added)
    (append_assoc text q.front q.rest ∙ ap (λ u. text ++ u) q.whole ∙ append-nil text)

pub puts_from : {T E : Type 0} (old same new : Option (List ℕ)) (r : Result T E) (text : List ℕ) → same ≡ old
    → Puts same r new text → Puts old r new text
puts_from old same new r text e h = let P : Option (List ℕ) → Type 0 = λ c. Puts c r new text in subst P e h

pub puts_err : {T E : Type 0} (old new : Option (List ℕ)) (r : Result T E) (e : E) (text : List ℕ) → r ≡ Err e
    → Begins old new text → Puts old r new text
puts_err {T} {E} old new r e text h b = let P : Result T E → Type 0 = λ x. Puts old x new text in subst P (sym h) b

-- ---- lines that a writer is handed

pub handed_more : (a b c : Option (List ℕ)) (text rest next : List ℕ) (n : ℕ) → IsPartlyWritten a b text rest → Appends b c (take n rest) → next ≡ drop n rest
    → IsPartlyWritten a c text next
handed_more a b c text rest next n h took e = record {
  front = h.front ++ take n rest;
  whole = append_assoc h.front (take n rest) next ∙ ap (λ u. h.front ++ (take n rest ++ u)) e ∙ ap (λ u. h.front ++ u) (take-append-drop n rest) ∙ h.whole;
  added = Appends-then a b c h.front (take n rest) h.added took;
}

-- a writer that took nothing more
pub handed_part : (a b c : Option (List ℕ)) (text rest : List ℕ) → IsPartlyWritten a b text rest → Keeps b c → Begins a c text
handed_part a b c text rest h keeps = record {
  front = h.front;
  rest = rest;
  whole = h.whole;
  added = subst (Appends a c) (append-nil h.front) (Appends-then a b c h.front [] h.added (Appends-nil b c keeps));
}
