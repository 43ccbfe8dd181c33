-- Texts that stop below lines that are out.
use Rattle.tabled_line.proofs.Names.{Bool, List, Sends, Sent, Stops, TableError, ap, append_assoc, false, lines_after, refl, subst, sym, ℕ}
use Rattle.tabled_line.proofs.Names.{◌++◌, ◌∙◌, ◌≡◌}
use Rattle.std.specs.List.{join_with_byte}
use Rattle.tabled_line.specs.Leading.{LineSends, LineStops}
use Rattle.tabled_line.specs.StopsBelow.{StopsBelow}
use Rattle.tabled_line.proofs.Leading.{lines_after-append, lines_after-joined}
use Rattle.tabled_line.proofs.Sending.{Appends-then, stops-then}
use Rattle.tabled_line.proofs.Writers.{LeavesSo}

-- what was sent stands above
pub stops-below : {a b c : Sent} {e : TableError} {s t : List ℕ} (whole : List ℕ) → Sends a b s → Stops b e c t → whole ≡ s ++ t
    → StopsBelow s a e c whole
stops-below {a} {b} {c} {e} {s} {t} whole p q w =
    let both = stops-then a b c e s t p q in
    record {
      stops =
          record {
            front = s ++ q.front;
            rest = q.rest;
            whole = append_assoc s q.front q.rest ∙ ap (λ u. s ++ u) q.whole ∙ sym w;
            added = Appends-then a.bytes b.bytes c.bytes s q.front p.added q.added;
            cause = both.cause;
          };
      more = q.front;
      out = refl;
    }

-- lines that were sent stand above
pub lines-below : {a b c : Sent} {p q : Bool} {e : TableError} {xs ys : List (List ℕ)} (whole : List (List ℕ)) → LineSends a p b q xs
    → LineStops b q e c ys → whole ≡ xs ++ ys → StopsBelow (lines_after p xs) a e c (lines_after p whole)
lines-below {p = p} {q = q} {xs = xs} {ys = ys} whole h k w =
    stops-below (lines_after p whole) h.sends k.stops
    (ap (lines_after p) w ∙ lines_after-append p xs ys ∙ ap (λ r. lines_after p xs ++ lines_after r ys) (sym h.after))

-- the texts of lines, as they are joined by line feeds
pub joined-below : {a c : Sent} {e : TableError} (above lines : List (List ℕ)) → StopsBelow (lines_after false above) a e c (lines_after false lines)
    → StopsBelow (join_with_byte 10 above) a e c (join_with_byte 10 lines)
joined-below {a} {c} {e} above lines h =
    let P : List ℕ → Type 0 = λ text. StopsBelow (lines_after false above) a e c text in
    let Q : List ℕ → Type 0 = λ text. StopsBelow text a e c (join_with_byte 10 lines) in
    subst Q (lines_after-joined above) (subst P (lines_after-joined lines) h)

-- for another sink
pub below-so : {a b a' b' : Sent} {e : TableError} (above text : List ℕ) → LeavesSo a b e a' b' → StopsBelow above a e b text
    → StopsBelow above a' e b' text
below-so above text so p = record { stops = so.stops text p.stops; more = p.more; out = so.front text p.stops ∙ p.out }
