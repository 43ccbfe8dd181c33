-- Streams that are printed to a borrowed writer.
use Rattle.tabled_table.proofs.Names.{ArePermitted, Bool, CompactConfig, Err, List, MayGive, Memory, None, Ok, Option, PrintsStream, Range}
use Rattle.tabled_table.proofs.Names.{ReadsTo, Result, Sent, StreamRead, StreamSettings, StreamStops, Streams, TableError, inl, inr, map}
use Rattle.tabled_table.proofs.Names.{refl, ℕ, ⊎_elim, ◌≡◌}
use Rattle.tabled_base.specs.declared.error.TableError.TheVariants.{Writer}
use Rattle.tabled_line.specs.WriterSent.{named_sent}
use Rattle.tabled_line.proofs.Below.{below-so}
use Rattle.tabled_line.proofs.Writers.{LeavesSo, byte_of, writer-leaves, writer-sends}
use Rattle.tabled_table.specs.Stream.Streams.{BuildsStream, StopsAtEnd, StopsAtRow, StopsBeforeStreaming, StopsInRows, StreamSource, Came}
use Rattle.tabled_table.proofs.Stream.FirstRows.{read_of}
use Rattle.std.specs.declared.option.Option.{Option}
use Rattle.std.specs.Iterator.{Count}
use Rattle.tabled_base.specs.RowsGiven.{RowsBegin, RowsEnd}

not_range : (e : TableError) → e ≡ Range → e ≡ Writer → ⊥
not_range e h k = cc

not_memory : (e : TableError) → e ≡ Memory → e ≡ Writer → ⊥
not_memory e h k = cc

-- why a stream stops, for another sink
stops-so : {a b a' b' : Sent} {e : TableError} (stream : StreamRead) → LeavesSo a b e a' b' → StreamStops stream a e b → StreamStops stream a' e b'
stops-so {a} {b} {a'} {b'} {e} stream so h =
    let early : StopsBeforeStreaming stream a e b → StopsBeforeStreaming stream a' e b' =
    λ p. record { same = so.same (⊎_elim (λ c. not_range e c.0) (λ c. not_memory e c.0) p.cause) p.same; cause = p.cause } in
    let at_row : StopsAtRow stream a e b → StopsAtRow stream a' e b' =
    λ p. record {
      shown = p.shown;
      rest = p.rest;
      sheet = p.sheet;
      begun = p.begun;
      taken = p.taken;
      cause = p.cause;
      sends = so.sends (⊎_elim (λ c. not_range e c.0) (λ c. not_memory e c.0) p.cause) _ p.sends;
    } in
    let in_rows : StopsInRows stream a e b → StopsInRows stream a' e b' =
    λ p. record {
      shown = p.shown;
      rest = p.rest;
      sheet = p.sheet;
      begun = p.begun;
      taken = p.taken;
      stops = below-so _ _ so p.stops;
    } in
    let at_end : StopsAtEnd stream a e b → StopsAtEnd stream a' e b' =
    λ p. record { enough = p.enough; sheet = p.sheet; streamed = p.streamed; stops = below-so _ _ so p.stops } in
    ⊎_elim (λ p. inl (early p)) (λ q. inr (⊎_elim (λ p. inl (at_row p)) (λ r. inr (⊎_elim (λ p. inl (in_rows p)) (λ p. inr (at_end p)) r)) q)) h

-- what the sink of a borrowed writer was sent, the writer took, if it is the one that is known in the end
pub prints-written : (from : StreamSource) (na nb : ℕ) (ca cb cf : Option (List ℕ)) (failed_at : Option ℕ)
    (r : Result (Unit {0}) TableError) → (nb ≡ na → cf ≡ cb)
    → PrintsStream from (named_sent na ca None) r (named_sent nb cb failed_at)
    → BuildsStream from ca r cf
prints-written from na nb ca cb cf failed_at (Ok x) k p = (
  0,
  record {
    rows = p.rows;
    whole = p.whole;
    came = p.came;
    permitted = p.permitted;
    streams = record {
      enough = p.streams.enough;
      sheet = p.streams.sheet;
      streamed = p.streams.streamed;
      sends = writer-sends na nb ca cb cf failed_at _ k p.streams.sends;
    };
  },
)
prints-written from na nb ca cb cf failed_at (Err e) k p = (
  byte_of failed_at,
  record {
    rows = p.rows;
    whole = p.whole;
    came = p.came;
    permitted = p.permitted;
    streams = stops-so (read_of from.settings from.config p.rows p.whole) (writer-leaves na nb ca cb cf failed_at e k) p.streams;
  },
)

-- ---- what is read of a source, told of the iterator that it makes

module _ {V S W T : Type 0} {rows_become : V → S → Type 0} {can_row : S → Type 0} {row_steps : S → Option W → S → Type 0} {rows_left : S → Count}
    {cells_become : W → T → Type 0} {can_cell : T → Type 0} {cells_left : T → Count} where
  pub may-give : {rows : V} {it : S} → RowsEnd rows_become can_row row_steps rows_left cells_become can_cell cells_left rows → rows_become rows it
      → MayGive can_row row_steps rows_left cells_become can_cell cells_left it
  may-give {rows} {it} h made = record { can = (h.all it made).0; ends = (h.all it made).1; each = h.each it made }

module _ {V S W T A : Type 0} {rows_become : V → S → Type 0} {row_steps : S → Option W → S → Type 0} {cells_become : W → T → Type 0}
    {cell_steps : T → Option A → T → Type 0} where
  pub begins-of : {rows : V} {it to : S} {cells : List (List A)} {whole : Bool} → rows_become rows it
      → ReadsTo row_steps cells_become cell_steps it cells whole to → RowsBegin rows_become row_steps cells_become cell_steps rows cells whole
  begins-of {it = it} {to = to} made r = record {
    lists = r.reads.lists;
    iterator = it;
    made = made;
    reached = r.reached;
    yielded = r.reads.yielded;
    each = r.reads.each;
    ended = λ e. (to, r.ended e);
  }

-- what is printed of a source, by the cells that are read of it first
pub prints-stream : {T A : Type 0} {settings : StreamSettings} {config : CompactConfig} {begins : List (List A) → Bool → Type 0} {text : A → List ℕ}
    {old new : Sent} {r : Result T TableError} (cells : List (List A)) (whole : Bool) → begins cells whole → ArePermitted settings (map (map text) cells)
    → Streams (read_of settings config (map (map text) cells) whole) old r new
    → PrintsStream (record { settings = settings; config = config; comes = Came begins text }) old r new
prints-stream {text = text} cells whole begun permitted streams = record {
  rows = map (map text) cells;
  whole = whole;
  came = (cells, begun, refl);
  permitted = permitted;
  streams = streams;
}
