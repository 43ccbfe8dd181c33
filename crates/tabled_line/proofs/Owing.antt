-- Texts that go out one after another, of which the spaces at the end are still to come.
use Rattle.tabled_line.proofs.Names.{Err, IsErrAnd, List, Ok, Result, Sends, SendsBut, Sent, Stops, TableError, Writes, [], ap, append-nil}
use Rattle.tabled_line.proofs.Names.{append_assoc, fill, sym, ℕ, ◌++◌, ◌∙◌, ◌≡◌}
use Rattle.tabled_line.specs.SendsBut.{WritesBut}
use Rattle.tabled_line.proofs.Sending.{finished, sends-none, sends-then, stopped}

-- nothing went out, and nothing is to come
pub owes-start : {spaces : ℕ} (a : Sent) → spaces ≡ 0 → SendsBut a a spaces []
owes-start a none = record { sent = []; sends = sends-none a; whole = ap (fill 32) none }

-- all went out
pub owes-nothing : {a b : Sent} (text : List ℕ) → Sends a b text → SendsBut a b 0 text
owes-nothing text p = record { sent = text; sends = p; whole = append-nil text }

-- one step further, which sends the spaces that were to come
pub owes-further : {a b c : Sent} {spaces next : ℕ} {text whole : List ℕ} (step : List ℕ) → SendsBut a b spaces text
    → SendsBut b c next (fill 32 spaces ++ step) → whole ≡ text ++ step → SendsBut a c next whole
owes-further {a} {b} {c} {spaces} {next} {text} {whole} step p q e =
    record {
      sent = p.sent ++ q.sent;
      sends = sends-then a b c p.sent q.sent p.sends q.sends;
      whole = append_assoc p.sent q.sent (fill 32 next) ∙ ap (λ u. p.sent ++ u) q.whole ∙ sym (append_assoc p.sent (fill 32 spaces) step)
          ∙ ap (λ u. u ++ step) p.whole ∙ sym e;
    }

-- the spaces go out at last
pub owes-finished : {T : Type 0} {a b : Sent} {spaces : ℕ} {text whole : List ℕ} (c : Sent) (r : Result T TableError)
    → SendsBut a b spaces text → Writes b r c (fill 32 spaces) → whole ≡ text → Writes a r c whole
owes-finished {T} {a} {b} {spaces} {text} {whole} c r p q e = finished c (fill 32 spaces) whole r p.sends q (e ∙ sym p.whole)

-- a text was refused, and so is the function; rest is what would have come
pub but-stopped : {a b c : Sent} {s t whole : List ℕ} (r : Result ℕ TableError) (e : TableError) (rest : List ℕ)
    → Sends a b s → Stops b e c t → IsErrAnd r (λ d. d ≡ e) → whole ≡ s ++ (t ++ rest) → WritesBut a r c whole
but-stopped (Ok x) e rest p q h w = absurd h
but-stopped (Err d) e rest p q h w = let same : Result ℕ TableError = Err d in stopped same e rest p q h w

-- the step was refused
pub owes-stopped : {T : Type 0} {a b c : Sent} {spaces : ℕ} {text whole : List ℕ} (r : Result T TableError) (e : TableError) (step rest : List ℕ)
    → SendsBut a b spaces text → Stops b e c (fill 32 spaces ++ step) → IsErrAnd r (λ d. d ≡ e) → whole ≡ text ++ (step ++ rest) → Writes a r c whole
owes-stopped {T} {a} {b} {c} {spaces} {text} {whole} r e step rest p q h w =
    stopped r e rest p.sends q h
    (w ∙ ap (λ u. u ++ (step ++ rest)) (sym p.whole) ∙ append_assoc p.sent (fill 32 spaces) (step ++ rest)
    ∙ ap (λ u. p.sent ++ u) (sym (append_assoc (fill 32 spaces) step rest)))
