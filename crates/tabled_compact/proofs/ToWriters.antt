-- Compact tables that are printed to a borrowed writer.
use Rattle.tabled_compact.proofs.Names.{CompactSheet, Err, FailsToPrintCompact, List, None, Ok, Option, PrintsCompact, Result, Sent}
use Rattle.tabled_compact.proofs.Names.{TableError, inl, inr, subst, ℕ, ⊎_elim, ◌≡◌}
use Rattle.tabled_base.specs.declared.error.TableError.TheVariants.{Writer}
use Rattle.tabled_line.specs.WriterSent.{named_sent}
use Rattle.tabled_line.proofs.Below.{below-so}
use Rattle.tabled_line.proofs.Writers.{LeavesSo, byte_of, writer-leaves, writer-sends}
use Rattle.tabled_compact.specs.Printed.{BuildsCompact, CompactRead, CompactSource, FailsEarly, IsEnded, StopsPrinting}

not_writer : (t : CompactSheet) (e : TableError) → FailsToPrintCompact t e → e ≡ Writer → ⊥
not_writer t e h k = let P : TableError → Type 0 = λ x. FailsToPrintCompact t x in subst P k h

-- why a compact table isn't printed whole, for another sink
ended-so : {a b a' b' : Sent} {e : TableError} (from : CompactSource) → LeavesSo a b e a' b' → IsEnded from a e b → IsEnded from a' e b'
ended-so {a} {b} {a'} {b'} {e} from so p =
    let early : FailsEarly from.sheet from.window p.rows a e b → FailsEarly from.sheet from.window p.rows a' e b' =
    λ q. record { first = q.first; cause = q.cause; same = so.same (not_writer from.sheet e q.cause) q.same } in
    let read : CompactRead = record { sheet = from.sheet; window = from.window; rows = p.rows; whole = p.whole } in
    let stopped : StopsPrinting read a e b → StopsPrinting read a' e b' =
    λ q. record {
      printable = q.printable;
      stops =
          ⊎_elim (λ s. inl (record { before = s.before; last = s.last; parts = s.parts; stops = below-so _ _ so s.stops }))
          (λ s. inr (record { enough = s.enough; stops = below-so _ _ so s.stops })) q.stops;
    } in
    record {
      rows = p.rows;
      whole = p.whole;
      came = p.came;
      taken = p.taken;
      filled = p.filled;
      ends = ⊎_elim (λ q. inl (early q)) (λ q. inr (stopped q)) p.ends;
    }

-- what the sink of a borrowed writer was sent, the writer took, if it is the one that is known in the end
pub prints-written : (from : CompactSource) (na nb : ℕ) (ca cb cf : Option (List ℕ)) (failed_at : Option ℕ)
    (r : Result (Unit {0}) TableError) → (nb ≡ na → cf ≡ cb)
    → PrintsCompact from (named_sent na ca None) r (named_sent nb cb failed_at)
    → BuildsCompact from ca r cf
prints-written from na nb ca cb cf failed_at (Ok x) k p = (
  0,
  record {
    rows = p.rows;
    whole = p.whole;
    came = p.came;
    taken = p.taken;
    enough = p.enough;
    printable = p.printable;
    sends = writer-sends na nb ca cb cf failed_at _ k p.sends;
  },
)
prints-written from na nb ca cb cf failed_at (Err e) k p =
    (byte_of failed_at, ended-so from (writer-leaves na nb ca cb cf failed_at e k) p)
