use Rattle.tabled_table.proofs.Names.{AreFirst, AreFurther, Bool, CompactConfig, Err, HasPut, IsLimited, Layout, LineSends, List, Ok}
use Rattle.tabled_table.proofs.Names.{Result, Sent, Some, StreamSettings, TableError, [], ap, false, fill, inl, inr, left_of, length}
use Rattle.tabled_table.proofs.Names.{length-map, limited, map, reads-open, refl, replicate, sniffed, subst, sym, take, true, unwrap_or, ℕ}
use Rattle.tabled_table.proofs.Names.{◌<◌, ◌^◌, ◌∙◌, ◌≡◌, ◌⊎◌}
use Rattle.tabled_table.specs.Stream.Progress.{FinishesBehind, StreamsLaidOut}
use Rattle.tabled_table.proofs.Stream.Going.{behind-ending, finishes-ending, finishes-halting, limited-permitted, none-further, reads-more}
use Rattle.tabled_table.proofs.Stream.Going.{reads-no-more, some-further}
use Rattle.tabled_table.proofs.Stream.Finished.{put-finished, put-halted, top-put}
use Rattle.tabled_table.proofs.Stream.FirstRows.{sniffed-shown}
use Rattle.tabled_table.proofs.Stream.Measures.{shown-texts, shown-within, sniffed-long, texts-long}
use Rattle.tabled_table.proofs.iter_table.stream.Stream.write_all.Goals.{then-taken-via-then-taken}
use Rattle.tabled_table.proofs.iter_table.stream.Stream.write_all.Goals.{then-taken-via-else-taken+then-is_none_left}
use Rattle.tabled_table.proofs.iter_table.stream.Stream.write_all.Goals as goal

pub returns-in_err-write_margin : goal.returns-in_err-write_margin
returns-in_err-write_margin g c =
    let settings = c.args.self.now.lines.columns.settings.now in
    let taken = c.args.taken.now in
    let text = g.C.CellText.text in
    let items = taken.rows in
    let kept = map (map text) items in
    let shown = shown-texts text items c.len-count.ensures settings.rows c.up_to-shown.result c.up_to-shown.ensures in (
      [],
      taken.whole,
      none-further settings.rows (length items) taken.whole,
      reads-no-more items taken.whole c.args.rows.now,
      λ config laid total.
          let failed : Result (Unit {0}) TableError = Err c.in_err-write_margin.field-0.0 in
          put-halted c.requires.kept laid c.requires.some total c.requires.in_range c.from_residual.result c.in_err-write_margin.field-0.0
          (take c.up_to-shown.result kept) shown c.from_residual.ensures.1 (
            0,
            (let stops = top-put failed c.args.self.now.lines.columns.total (g.S.TextSink.sent c.args.sink.now)
                (g.S.TextSink.sent c.write_margin.new.sink) c.args.self.now.first c.write_margin.new.self.begun laid total c.requires.first
                (rw c.requires.begun at c.in_err-write_margin.ensures.printed) in
                record { shown = []; rest = []; parts = refl; halts = inr (refl, stops) }),
          ),
    )

pub returns-in_err-write_first_rows : goal.returns-in_err-write_first_rows
returns-in_err-write_first_rows g c =
    let settings = c.args.self.now.lines.columns.settings.now in
    let taken = c.args.taken.now in
    let text = g.C.CellText.text in
    let items = taken.rows in
    let kept = map (map text) items in
    let long = sniffed-long text items c.len-count.ensures settings c.min-ahead.result c.ahead.result c.min-ahead.ensures c.ahead.ensures in
    let shown = shown-texts text items c.len-count.ensures settings.rows c.up_to-shown.result c.up_to-shown.ensures in
    let done : Result (Unit {0}) TableError = Ok tt in
    let stops = rw c.in_ok-write_margin.ensures.same at c.in_err-write_first_rows.ensures.printed in (
      [],
      taken.whole,
      none-further settings.rows (length items) taken.whole,
      reads-no-more items taken.whole c.args.rows.now,
      λ config laid total.
          put-halted c.requires.kept laid c.requires.some total c.requires.in_range c.from_residual-in_err-write_first_rows.result
          c.in_err-write_first_rows.field-0.0
          (take c.up_to-shown.result kept) shown c.from_residual-in_err-write_first_rows.ensures.1
          (stops config (sniffed settings kept) (g.S.TextSink.sent c.args.sink.now) long
          (top-put done c.args.self.now.lines.columns.total (g.S.TextSink.sent c.args.sink.now) (g.S.TextSink.sent c.write_margin.new.sink)
          c.args.self.now.first c.write_margin.new.self.begun laid total c.requires.first (rw c.requires.begun at c.in_ok-write_margin.ensures.printed))),
    )

-- the table is printed: the top margin, the first rows, and what follows them
behind : {C R : Type 0} (text : C → List ℕ) (items more : List (List C)) (shown : ℕ) {settings : StreamSettings} {layout : Layout}
    {total many : ℕ} {all whole first first' begun begun' : Bool} {start mid old new : Sent} (r : Result R TableError)
    → AreFirst settings (map (map text) items) all → 0 < layout.count → total < 2 ^ 64
    → 0 < length (limited settings.rows (map (map text) items)) → first ≡ true
    → LineSends start false mid begun (replicate layout.frame.margin.top.size (fill layout.frame.margin.top.fill total))
    → ((config : CompactConfig) (ahead_rows : List (List (List ℕ))) (s : Sent) → length ahead_rows ≡ many
    → HasPut settings config ahead_rows [] s layout first mid begun
    → HasPut settings config ahead_rows (take shown (map (map text) items)) s layout first' old begun')
    → length (sniffed settings (map (map text) items)) ≡ many
    → take shown (map (map text) items) ≡ limited settings.rows (map (map text) items)
    → AreFurther settings.rows (length items) all (length more) whole
    → FinishesBehind (left_of settings.rows (length items)) (unwrap_or settings.height 1) total whole (map (map text) more) layout
    first' old begun' r new
    → StreamsLaidOut settings layout total (map (map text) items) (map (map text) more) whole start r new
behind text items more shown {settings = settings} {layout = layout} {total = total} {whole = whole} {first = first} {first' = first'}
    {begun = begun} {begun' = begun'} {start = start} {mid = mid} {old = old}
    r f some b filled is_first top puts long shows further finishes config laid t =
    let kept = map (map text) items in
    let known = texts-long text items in
    let begins = top-put {R = Unit {0}} (Ok tt) total start mid first begun laid t is_first top in
    let put = subst (λ rows. HasPut settings config (sniffed settings kept) rows start layout first' old begun') shows
    (puts config (sniffed settings kept) start long begins) in
    put-finished f laid some t b r (map (map text) more) whole (length items) (length more) (sym known)
    (sym (length-map more (map text))) further
    (finishes settings config (sniffed settings kept) (limited settings.rows kept) start
    (λ going. sniffed-shown settings kept (λ e. going (ap (left_of settings.rows) (sym known) ∙ e))) refl filled some t put)

pub returns-then-taken : goal.returns-then-taken
returns-then-taken g c =
    let settings = c.args.self.now.lines.columns.settings.now in
    let taken = c.args.taken.now in
    let items = taken.rows in
    let text = g.C.CellText.text in
    let long = sniffed-long text items c.len-count.ensures settings c.min-ahead.result c.ahead.result c.min-ahead.ensures c.ahead.ensures in
    let shown = shown-texts text items c.len-count.ensures settings.rows c.up_to-shown.result c.up_to-shown.ensures in
    let puts = rw c.in_ok-write_margin.ensures.same at c.in_ok-write_first_rows.ensures.printed in
    let left = c.fewer-left.ensures ∙ ap (left_of settings.rows) c.len-count.ensures in
    let why : (taken.whole ≡ true) ⊎ (left_of settings.rows (length items) ≡ Some 0) =
    elim c.then-taken.branch [
      | then-taken-via-then-taken w ↦ inl w.if-taken.true
      | then-taken-via-else-taken+then-is_none_left w ↦ inr (rw left at (w.is_none_left.ensures.reached w.if-is_none_left.true))
    ] in
    let further = none-further settings.rows (length items) taken.whole in
    let finishes = behind-ending taken.whole why
    (rw (c.in_ok-write_first_rows.ensures.same, c.in_ok-write_margin.ensures.same) at c.write_bottom.ensures.printed) in (
      [],
      taken.whole,
      further,
      reads-no-more items taken.whole c.args.rows.now,
      behind text items [] c.up_to-shown.result c.write_bottom.result c.requires.kept c.requires.some c.requires.in_range
          c.requires.filled c.requires.first (rw c.requires.begun at c.in_ok-write_margin.ensures.printed) puts long shown further finishes,
    )

pub returns-in_err-write_next_rows : goal.returns-in_err-write_next_rows
returns-in_err-write_next_rows g c =
    let settings = c.args.self.now.lines.columns.settings.now in
    let taken = c.args.taken.now in
    let items = taken.rows in
    let text = g.C.CellText.text in
    let long = sniffed-long text items c.len-count.ensures settings c.min-ahead.result c.ahead.result c.min-ahead.ensures c.ahead.ensures in
    let shown = shown-texts text items c.len-count.ensures settings.rows c.up_to-shown.result c.up_to-shown.ensures in
    let puts = rw c.in_ok-write_margin.ensures.same at c.in_ok-write_first_rows.ensures.printed in
    let left = c.fewer-left.ensures ∙ ap (left_of settings.rows) c.len-count.ensures in
    let going = rw left at (c.is_none_left.ensures.going c.if-is_none_left.false) in
    let e = c.in_err-write_next_rows.ensures.err in
    let failed = c.from_residual-in_err-write_next_rows in
    let further = some-further settings.rows c.fewer-left.result (length items) (length e.0) taken.whole false left c.if-taken.false e.1 in
    let finishes = finishes-halting (left_of settings.rows (length items)) (unwrap_or settings.height 1)
    c.args.self.now.lines.columns.total false (map (map text) e.0) failed.result going c.in_err-write_next_rows.field-0.0 failed.ensures.1
    (rw (c.unwrap_or-lines.ensures, c.in_ok-write_first_rows.ensures.same, c.in_ok-write_margin.ensures.same) at e.3) in (
      e.0,
      false,
      further,
      reads-more items e.0 taken.whole false c.args.rows.now c.write_next_rows.new.rows c.if-taken.false (reads-open e.2),
      behind text items e.0 c.up_to-shown.result failed.result c.requires.kept c.requires.some c.requires.in_range
          c.requires.filled c.requires.first (rw c.requires.begun at c.in_ok-write_margin.ensures.printed) puts long shown further finishes,
    )

pub returns : goal.returns
returns g c =
    let settings = c.args.self.now.lines.columns.settings.now in
    let taken = c.args.taken.now in
    let items = taken.rows in
    let text = g.C.CellText.text in
    let long = sniffed-long text items c.len-count.ensures settings c.min-ahead.result c.ahead.result c.min-ahead.ensures c.ahead.ensures in
    let shown = shown-texts text items c.len-count.ensures settings.rows c.up_to-shown.result c.up_to-shown.ensures in
    let puts = rw c.in_ok-write_margin.ensures.same at c.in_ok-write_first_rows.ensures.printed in
    let left = c.fewer-left.ensures ∙ ap (left_of settings.rows) c.len-count.ensures in
    let going = rw left at (c.is_none_left.ensures.going c.if-is_none_left.false) in
    let o = c.in_ok-write_next_rows.ensures.ok in
    let whole = c.in_ok-write_next_rows.field-0 in
    let further = some-further settings.rows c.fewer-left.result (length items) (length o.0) taken.whole whole left c.if-taken.false
    (limited-permitted c.fewer-left.result (length o.0) whole o.1) in
    let finishes = finishes-ending (left_of settings.rows (length items)) (unwrap_or settings.height 1)
    c.args.self.now.lines.columns.total whole (map (map text) o.0) c.write_bottom-2.result going
    (subst (λ n. IsLimited (left_of settings.rows (length items)) n whole) (sym (length-map o.0 (map text))) (rw left at o.1))
    (rw (c.unwrap_or-lines.ensures, c.in_ok-write_first_rows.ensures.same, c.in_ok-write_margin.ensures.same) at o.3)
    (rw (c.in_ok-write_next_rows.ensures.same, c.in_ok-write_first_rows.ensures.same, c.in_ok-write_margin.ensures.same)
    at c.write_bottom-2.ensures.printed) in (
      o.0,
      whole,
      further,
      reads-more items o.0 taken.whole whole c.args.rows.now c.write_next_rows.new.rows c.if-taken.false o.2,
      behind text items o.0 c.up_to-shown.result c.write_bottom-2.result c.requires.kept c.requires.some c.requires.in_range
          c.requires.filled c.requires.first (rw c.requires.begun at c.in_ok-write_margin.ensures.printed) puts long shown further finishes,
    )

pub write_first_rows-requires : goal.write_first_rows-requires
write_first_rows-requires g c = shown-within g.C.CellText.text c.args.taken.now.rows c.len-count.ensures c.args.self.now.lines.columns.settings.now.rows c.up_to-shown.result c.up_to-shown.ensures
