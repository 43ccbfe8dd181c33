-- What a call that prints to the sink of a borrowed writer says of the writer.
use Rattle.tabled_line.proofs.Names.{Appends, Err, Keeps, List, Memory, Narrow, None, Ok, Option, Range, Result, Sends, Sent, ShortHeights}
use Rattle.tabled_line.proofs.Names.{ShortWidths, Some, Stops, TableError, Took, Writer, [], ap, append-nil, append_assoc, arith, false}
use Rattle.tabled_line.proofs.Names.{inl, inr, length, named_sent, refl, subst, sym, take, true, ℕ, ⊎_elim, ◌++◌, ◌<◌, ◌∙◌, ◌∷◌, ◌≡◌, ◌≤◌}
use Rattle.std.specs.Prelude.{MatchResult, slice_index_or}
use Rattle.std.specs.Io.KnownBytes.{append_known}
use Rattle.tabled_line.specs.WriterSent.{failed_byte, known_since, writer_after, writer_before}

-- ---- while a text is handed over

-- a writer took some bytes
pub named-appends : (name : ℕ) (ca cb : Option (List ℕ)) (text : List ℕ) → Appends ca cb text
    → Appends (named_sent name ca None).bytes (named_sent name cb None).bytes text
named-appends name None cb text h = tt
named-appends name (Some xs) None text h = absurd h
named-appends name (Some xs) (Some ys) text h =
    ap (λ u. name ∷ u) (append-nil ys ∙ h ∙ ap (λ u. u ++ text) (sym (append-nil xs)))

failed-appends : (na nb : ℕ) (ca cb cc : Option (List ℕ)) (front : List ℕ) (first : ℕ) → Keeps cb cc
    → Appends (named_sent na ca None).bytes (named_sent nb cb None).bytes front
    → Appends (named_sent na ca None).bytes (named_sent nb cc (Some first)).bytes (front ++ first ∷ [])
failed-appends na nb None cb cc front first k h = tt
failed-appends na nb (Some xs) None cc front first k h = absurd h
failed-appends na nb (Some xs) (Some ys) None front first k h = absurd k
failed-appends na nb (Some xs) (Some ys) (Some zs) front first k h =
    ap (λ u. nb ∷ (u ++ first ∷ [])) (k ∙ sym (append-nil ys)) ∙ ap (λ u. u ++ first ∷ []) h
    ∙ append_assoc (na ∷ (xs ++ [])) front (first ∷ [])

stops-failed : (na nb : ℕ) (ca cb cc : Option (List ℕ)) (text rest : List ℕ)
    → Took (named_sent na ca None) (named_sent nb cb None) text rest → 0 < length rest → Keeps cb cc
    → Stops (named_sent na ca None) Writer (named_sent nb cc (Some (slice_index_or rest 0 0))) text
stops-failed na nb ca cb cc text [] p some k = absurd (omega arith)
stops-failed na nb ca cb cc text (first ∷ rest) p some k = record {
  front = p.front ++ first ∷ [];
  rest = rest;
  whole = append_assoc p.front (first ∷ []) rest ∙ p.whole;
  added = failed-appends na nb ca cb cc p.front first k p.sends.added;
  cause = inr refl;
}

-- a write failed
pub took-failed : (na nb : ℕ) (ca cb cc : Option (List ℕ)) (old new : Option ℕ) (text rest : List ℕ) → old ≡ None
    → new ≡ Some (slice_index_or rest 0 0) → Took (named_sent na ca None) (named_sent nb cb None) text rest → 0 < length rest
    → Keeps cb cc → Stops (named_sent na ca old) Writer (named_sent nb cc new) text
took-failed na nb ca cb cc old new text rest is failed p some k =
    let P : Option ℕ → Type 0 = λ o. Stops (named_sent na ca o) Writer (named_sent nb cc new) text in
    let Q : Option ℕ → Type 0 = λ n. Stops (named_sent na ca None) Writer (named_sent nb cc n) text in
    subst P (sym is) (subst Q (sym failed) (stops-failed na nb ca cb cc text rest p some k))

-- a write that took no bytes
pub kept-none : (a b : Option (List ℕ)) (n : ℕ) (buffer : List ℕ) → n ≤ 0 → Appends a b (take n buffer) → Keeps a b
kept-none None b n buffer h p = tt
kept-none (Some xs) None n buffer h p = absurd p
kept-none (Some xs) (Some ys) n buffer h p =
    let e : n ≡ 0 = omega arith in p ∙ ap (λ k. xs ++ take k buffer) e ∙ append-nil xs

-- a write that gave no count
pub kept-failed : {E : Type 0} (r : Result ℕ E) (P : ℕ → Type 0) (K : Type 0) → ((x : ℕ) → r ≡ Ok x → ⊥) → MatchResult r P (λ _. K) → K
kept-failed (Ok x) P K never h = absurd (never x refl)
kept-failed (Err e) P K never h = h

-- ---- what is said of the writer

held : (na nb : ℕ) (xs ys zs text : List ℕ) (cf : Option (List ℕ)) → (nb ≡ na → cf ≡ Some ys)
    → nb ∷ (ys ++ zs) ≡ na ∷ ((xs ++ []) ++ text) → Appends (Some xs) (append_known cf zs) text
held na nb xs ys zs text cf k h =
    let same : nb ≡ na = cc in
    let rest : ys ++ zs ≡ (xs ++ []) ++ text = cc in
    let P : Option (List ℕ) → Type 0 = λ c. Appends (Some xs) (append_known c zs) text in
    subst P (sym (k same)) (rest ∙ ap (λ u. u ++ text) (append-nil xs))

known-appends : (na nb : ℕ) (ca cb cf : Option (List ℕ)) (failed_at : Option ℕ) (text : List ℕ) → (nb ≡ na → cf ≡ cb)
    → Appends (named_sent na ca None).bytes (named_sent nb cb failed_at).bytes text
    → Appends ca (append_known (known_since ca cf) (failed_byte failed_at)) text
known-appends na nb None cb cf failed_at text k h = tt
known-appends na nb (Some xs) None cf failed_at text k h = absurd h
known-appends na nb (Some xs) (Some ys) cf failed_at text k h = held na nb xs ys (failed_byte failed_at) text cf k h

plain : (ca known : Option (List ℕ)) (text : List ℕ) → Appends ca (append_known known []) text → Appends ca known text
plain None known text h = tt
plain (Some xs) None text h = h
plain (Some xs) (Some ys) text h = sym (append-nil ys) ∙ h

-- exactly a text was sent
pub writer-sends : (na nb : ℕ) (ca cb cf : Option (List ℕ)) (failed_at : Option ℕ) (text : List ℕ) → (nb ≡ na → cf ≡ cb)
    → Sends (named_sent na ca None) (named_sent nb cb failed_at) text
    → Sends (writer_before ca) (writer_before (known_since ca cf)) text
writer-sends na nb ca cb cf None text k p = record {
  added = plain ca (known_since ca cf) text (known-appends na nb ca cb cf None text k p.added);
  counted = omega arith;
  alike = refl;
}
writer-sends na nb ca cb cf (Some byte) text k p = let bad : true ≡ false = p.alike in absurd (cc)

abbrev pub byte_of : Option ℕ → ℕ
byte_of None = 0
byte_of (Some byte) = byte

kept : (na nb : ℕ) (ca cb cf : Option (List ℕ)) → (nb ≡ na → cf ≡ cb)
    → (named_sent nb cb None).bytes ≡ (named_sent na ca None).bytes → known_since ca cf ≡ ca
kept na nb None cb cf k h = refl
kept na nb (Some xs) None cf k h = let bad : ⊥ = cc in absurd bad
kept na nb (Some xs) (Some ys) cf k h =
    let same : nb ≡ na = cc in
    let bytes : ys ++ [] ≡ xs ++ [] = cc in
    k same ∙ ap (λ u. Some u) (sym (append-nil ys) ∙ bytes ∙ append-nil xs)

kept_open : (na nb : ℕ) (ca cb cf : Option (List ℕ)) (failed_at : Option ℕ) → (nb ≡ na → cf ≡ cb)
    → named_sent nb cb failed_at ≡ named_sent na ca None → known_since ca cf ≡ ca
kept_open na nb ca cb cf None k h = kept na nb ca cb cf k (ap (λ s. s.bytes) h)
kept_open na nb ca cb cf (Some byte) k h = let grows : true ≡ false = ap (λ s. s.grows) h in absurd (cc)

-- what a call that failed leaves of one sink, it leaves of another
pub record LeavesSo (a b : Sent) (e : TableError) (a' b' : Sent) : Type 0 where
  pub sends : (e ≡ Writer → ⊥) → (text : List ℕ) → Sends a b text → Sends a' b' text
  pub same : (e ≡ Writer → ⊥) → b ≡ a → b' ≡ a'
  pub stops : (text : List ℕ) → Stops a e b text → Stops a' e b' text
  pub front : (text : List ℕ) (s : Stops a e b text) → (stops text s).front ≡ s.front

stopped_writer : (na nb : ℕ) (ca cb cf : Option (List ℕ)) (failed_at : Option ℕ) (text : List ℕ) → (nb ≡ na → cf ≡ cb)
    → Stops (named_sent na ca None) Writer (named_sent nb cb failed_at) text
    → Stops (writer_before ca) Writer (writer_after {T = Unit {0}} (Err Writer) (known_since ca cf) (byte_of failed_at)) text
stopped_writer na nb ca cb cf None text k p =
    ⊎_elim (λ h. absurd (omega arith)) (λ h. absurd (omega arith)) p.cause
stopped_writer na nb ca cb cf (Some byte) text k p = record {
  front = p.front;
  rest = p.rest;
  whole = p.whole;
  added = known-appends na nb ca cb cf (Some byte) p.front k p.added;
  cause = inl (omega arith);
}

stopped-front : (na nb : ℕ) (ca cb cf : Option (List ℕ)) (failed_at : Option ℕ) (text : List ℕ) (k : nb ≡ na → cf ≡ cb)
    (p : Stops (named_sent na ca None) Writer (named_sent nb cb failed_at) text)
    → (stopped_writer na nb ca cb cf failed_at text k p).front ≡ p.front
unfolding stopped_writer
stopped-front na nb ca cb cf None text k p =
    ⊎_elim (λ h. absurd (omega arith)) (λ h. absurd (omega arith)) p.cause
stopped-front na nb ca cb cf (Some byte) text k p = refl

leaves_writer : (na nb : ℕ) (ca cb cf : Option (List ℕ)) (failed_at : Option ℕ) (e : TableError) → (nb ≡ na → cf ≡ cb)
    → ((text : List ℕ) → Stops (named_sent na ca None) e (named_sent nb cb failed_at) text → ⊥)
    → LeavesSo (named_sent na ca None) (named_sent nb cb failed_at) e (writer_before ca) (writer_before (known_since ca cf))
leaves_writer na nb ca cb cf failed_at e k never = record {
  sends = λ _ text p. writer-sends na nb ca cb cf failed_at text k p;
  same = λ _ h. ap writer_before (kept_open na nb ca cb cf failed_at k h);
  stops = λ text p. absurd (never text p);
  front = λ text p. absurd (never text p);
}

-- a call that failed with the sink of a writer
pub writer-leaves : (na nb : ℕ) (ca cb cf : Option (List ℕ)) (failed_at : Option ℕ) (e : TableError) → (nb ≡ na → cf ≡ cb)
    → LeavesSo (named_sent na ca None) (named_sent nb cb failed_at) e
    (writer_before ca) (writer_after {T = Unit {0}} (Err e) (known_since ca cf) (byte_of failed_at))
writer-leaves na nb ca cb cf failed_at Writer k = record {
  sends = λ other text p. absurd (other refl);
  same = λ other h. absurd (other refl);
  stops = λ text p. stopped_writer na nb ca cb cf failed_at text k p;
  front = λ text p. stopped-front na nb ca cb cf failed_at text k p;
}
writer-leaves na nb ca cb cf failed_at Memory k =
    leaves_writer na nb ca cb cf failed_at Memory k (λ text p. let bad : false ≡ true = p.cause.0 in cc)
writer-leaves na nb ca cb cf failed_at ShortWidths k =
    leaves_writer na nb ca cb cf failed_at ShortWidths k (λ text p. p.cause)
writer-leaves na nb ca cb cf failed_at ShortHeights k =
    leaves_writer na nb ca cb cf failed_at ShortHeights k (λ text p. p.cause)
writer-leaves na nb ca cb cf failed_at (Narrow row column) k =
    leaves_writer na nb ca cb cf failed_at (Narrow row column) k (λ text p. p.cause)
writer-leaves na nb ca cb cf failed_at Range k = leaves_writer na nb ca cb cf failed_at Range k (λ text p. p.cause)
