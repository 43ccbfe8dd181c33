-- Lines that are printed one after another.
use Rattle.tabled_line.proofs.Names.{Bool, Err, IsErrAnd, LineSends, List, Ok, Result, Sends, Sent, Stops, TableError, Writes, WritesLines}
use Rattle.tabled_line.proofs.Names.{[], ap, append-nil, append_assoc, break, false, lines_after, refl, subst, sym, true, ℕ, ◌++◌, ◌∙◌, ◌∷◌}
use Rattle.tabled_line.proofs.Names.{◌≡◌}
use Rattle.std.specs.List.{join_with_byte}
use Rattle.tabled_line.proofs.Sending.{further, finished, stopped-first, sends-none, stops-more, stops-then}
use Rattle.tabled_line.specs.Leading.{begun_after, LineStops}

after-true : (xs : List (List ℕ)) → begun_after true xs ≡ true
after-true [] = refl
after-true (x ∷ xs) = refl

pub lines_after-append : (b : Bool) (xs ys : List (List ℕ)) → lines_after b (xs ++ ys) ≡ lines_after b xs ++ lines_after (begun_after b xs) ys
lines_after-append b [] ys = refl
lines_after-append b (l ∷ ls) ys =
    let e = lines_after-append true ls ys ∙ ap (λ c. lines_after true ls ++ lines_after c ys) (after-true ls) in
    ap (λ u. break b ++ (l ++ u)) e
    ∙ ap (λ u. break b ++ u) (sym (append_assoc l (lines_after true ls) (lines_after true ys)))
    ∙ sym (append_assoc (break b) (l ++ lines_after true ls) (lines_after true ys))

after-append : (b : Bool) (xs ys : List (List ℕ)) → begun_after b (xs ++ ys) ≡ begun_after (begun_after b xs) ys
after-append b [] ys = refl
after-append b (x ∷ xs) ys = sym (after-true ys)

pub lines-none : (a : Sent) (b : Bool) → LineSends a b a b []
lines-none a b = record { sends = sends-none a; after = refl }

lines_after-join : (p q : Bool) (xs ys whole : List (List ℕ)) → q ≡ begun_after p xs → whole ≡ xs ++ ys → lines_after p whole ≡ lines_after p xs ++ lines_after q ys
lines_after-join p q xs ys whole e w = ap (lines_after p) w ∙ lines_after-append p xs ys ∙ ap (λ c. lines_after p xs ++ lines_after c ys) (sym e)

pub lines-further : {a b c : Sent} {p q r : Bool} {xs ys whole : List (List ℕ)} → LineSends a p b q xs → LineSends b q c r ys → whole ≡ xs ++ ys → LineSends a p c r whole
lines-further {a} {b} {c} {p} {q} {r} {xs} {ys} {whole} h k w = record {
  sends = further h.sends k.sends (lines_after-join p q xs ys whole h.after w);
  after = k.after ∙ ap (λ u. begun_after u ys) h.after ∙ sym (after-append p xs ys) ∙ ap (begun_after p) (sym w);
}

stops-after : {a b c : Sent} {p q : Bool} {xs ys : List (List ℕ)} (d : TableError) (rest whole : List (List ℕ)) → LineSends a p b q xs → LineStops b q d c ys → whole ≡ xs ++ (ys ++ rest) → LineStops a p d c whole
stops-after {a} {b} {c} {p} {q} {xs} {ys} d rest whole h k w =
    let P : List ℕ → Type 0 = λ u. Stops a d c u in
    let more = stops-more b c d (lines_after q ys) (lines_after (begun_after q ys) rest) k.stops in
    let eq = lines_after-join p q xs (ys ++ rest) whole h.after w ∙ ap (λ u. lines_after p xs ++ u) (lines_after-append q ys rest) in
    record { stops = subst P (sym eq) (stops-then a b c d (lines_after p xs) (lines_after q ys ++ lines_after (begun_after q ys) rest) h.sends more) }

pub lines-finished : {T : Type 0} {a b : Sent} {p q : Bool} {xs : List (List ℕ)} (c : Sent) (r : Bool) (ys whole : List (List ℕ)) (res : Result T TableError) → LineSends a p b q xs → WritesLines b q res c r ys → whole ≡ xs ++ ys → WritesLines a p res c r whole
lines-finished c r ys whole (Ok x) h k w = lines-further h k w
lines-finished {xs = xs} c r ys whole (Err d) h k w = stops-after d [] whole h k (w ∙ ap (λ u. xs ++ u) (sym (append-nil ys)))

pub lines-stopped : {T : Type 0} {a b c : Sent} {p q : Bool} {xs ys : List (List ℕ)} (r : Bool) (rest whole : List (List ℕ)) (res : Result T TableError) (e : TableError) → LineSends a p b q xs → LineStops b q e c ys → IsErrAnd res (λ d. d ≡ e) → whole ≡ xs ++ (ys ++ rest) → WritesLines a p res c r whole
lines-stopped r rest whole (Ok x) e h k i w = absurd i
lines-stopped {T} {a} {b} {c} {p} {q} {xs} {ys} r rest whole (Err d) e h k i w =
    let Q : TableError → Type 0 = λ u. LineStops a p u c whole in
    subst Q (sym i) (stops-after e rest whole h k w)

pub lines-stopped-first : {T : Type 0} {a c : Sent} {p : Bool} {ys : List (List ℕ)} (r : Bool) (rest whole : List (List ℕ)) (res : Result T TableError) (e : TableError) → LineStops a p e c ys → IsErrAnd res (λ d. d ≡ e) → whole ≡ ys ++ rest → WritesLines a p res c r whole
lines-stopped-first {T} {a} {c} {p} r rest whole res e k i w = lines-stopped r rest whole res e (lines-none a p) k i w

-- ---- one line: the break, and then its text

lines_after-one : (p : Bool) (l : List ℕ) → lines_after p (l ∷ []) ≡ break p ++ l
lines_after-one p l = ap (λ u. break p ++ u) (append-nil l)

pub line-sent : {a b c : Sent} {p r : Bool} {l : List ℕ} → Sends a b (break p) → Sends b c l → r ≡ true → LineSends a p c r (l ∷ [])
line-sent {p = p} {l = l} h k e = record { sends = further h k (lines_after-one p l); after = e }

pub line-stopped : {a b c : Sent} {p : Bool} {l : List ℕ} {d : TableError} → Sends a b (break p) → Stops b d c l → LineStops a p d c (l ∷ [])
line-stopped {c = c} {p = p} {l = l} {d = d} h k =
    record { stops = finished {T = Unit {0}} c l (lines_after p (l ∷ [])) (Err d) h k (lines_after-one p l) }

pub break-stopped : {a c : Sent} {p : Bool} {d : TableError} (l : List ℕ) → Stops a d c (break p) → LineStops a p d c (l ∷ [])
break-stopped {p = p} {d = d} l h = record { stops = stopped-first {T = Unit {0}} (Err d) d l h refl (lines_after-one p l) }

pub one-line : {T : Type 0} {a b : Sent} (p : Bool) (c : Sent) (r : Bool) (l : List ℕ) (res : Result T TableError) → Sends a b (break p) → Writes b res c l → r ≡ true → WritesLines a p res c r (l ∷ [])
one-line p c r l (Ok x) h k e = line-sent h k e
one-line p c r l (Err d) h k e = line-stopped h k

pub one-line-stopped : {T : Type 0} {a c : Sent} (p r : Bool) (l : List ℕ) (res : Result T TableError) (e : TableError) → Stops a e c (break p) → IsErrAnd res (λ d. d ≡ e) → WritesLines a p res c r (l ∷ [])
one-line-stopped p r l (Ok x) e h i = absurd i
one-line-stopped p r l (Err d) e h i = record { stops = stopped-first {T = Unit {0}} (Err d) e l h i (lines_after-one p l) }

-- ---- the text of lines, as they are joined by line feeds

lines_after-true : (l : List ℕ) (ls : List (List ℕ)) → lines_after true (l ∷ ls) ≡ 10 ∷ join_with_byte 10 (l ∷ ls)
lines_after-true l [] = ap (λ u. 10 ∷ u) (append-nil l)
lines_after-true l (k ∷ ks) = ap (λ u. 10 ∷ (l ++ u)) (lines_after-true k ks)

pub lines_after-joined : (ls : List (List ℕ)) → lines_after false ls ≡ join_with_byte 10 ls
lines_after-joined [] = refl
lines_after-joined (l ∷ []) = append-nil l
lines_after-joined (l ∷ k ∷ ks) = ap (λ u. l ++ u) (lines_after-true k ks)

-- what printing lines from the first one leaves is what printing their text leaves
pub lines-text : {T : Type 0} (a b : Sent) (q : Bool) (r : Result T TableError) (ls : List (List ℕ)) → WritesLines a false r b q ls → Writes a r b (join_with_byte 10 ls)
lines-text a b q (Ok x) ls h = further h.sends (sends-none b) (sym (lines_after-joined ls) ∙ sym (append-nil (lines_after false ls)))
lines-text a b q (Err e) ls h = let P : List ℕ → Type 0 = λ u. Stops a e b u in subst P (lines_after-joined ls) h.stops
