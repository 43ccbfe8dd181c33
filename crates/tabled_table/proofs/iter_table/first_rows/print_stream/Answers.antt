use Rattle.tabled_table.proofs.Names.{ArePermitted, List, Streams, map-append, ◌++◌, AreFurther, Err, Range, arith, column_count, false}
use Rattle.tabled_table.proofs.Names.{inl, inr, length, length-map, limited, map, reads-open, refl, sniffed, subst, sym, ℕ, ◌∙◌, ◌≡◌, ◌⊎◌}
use Rattle.tabled_table.proofs.Stream.Finished.{err-streams, unplanned}
use Rattle.tabled_table.proofs.Stream.FirstRows.{permitted-ahead, permitted-first, permitted-more, read_of, taken-first, unshown, unshown-enough}
use Rattle.tabled_table.proofs.Stream.Measures.{columns-first, shown-long, texts-long}
use Rattle.tabled_table.proofs.Stream.Widths.{total-laid, width-in-total}
use Rattle.tabled_table.proofs.iter_table.first_rows.print_stream.Goals.{then-count-eq0-via-then-count-eq0}
use Rattle.tabled_table.proofs.iter_table.first_rows.print_stream.Goals.{then-count-eq0-via-else-count-eq0+then-up_to-eq0}
use Rattle.tabled_table.proofs.iter_table.first_rows.print_stream.Goals as goal

pub returns-in_err-taken : goal.returns-in_err-taken
returns-in_err-taken g c =
    let settings = c.args.settings.now in
    let read = c.in_err-taken.ensures.err in
    let texts = map (map g.C.CellText.text) read.cells in
    let many : length texts ≡ length read.cells = length-map read.cells (map g.C.CellText.text) in (
      read.cells,
      false,
      reads-open read.reads,
      permitted-ahead settings texts c.first_rows.result (omega (arith, many, read.within)) c.first_rows.ensures.needed,
      err-streams c.from_residual.result c.in_err-taken.field-0.0 c.from_residual.ensures.1
          (inl (record { same = refl; cause = inr (c.in_err-taken.ensures.only, omega (arith, many, read.some)) })),
    )

pub returns-then-count-eq0 : goal.returns-then-count-eq0
returns-then-count-eq0 g c =
    let settings = c.args.settings.now in
    let config = c.args.config.now in
    let taken = c.in_ok-taken.taken in
    let text = g.C.CellText.text in
    let items = taken.rows in
    let kept = map (map text) items in
    let h = c.in_ok-taken.ensures in
    let first = taken-first settings text items taken.whole c.first_rows.result h.within (λ o. (h.open o).0) c.first_rows.ensures.ahead
    c.first_rows.ensures.needed c.first_rows.ensures.none in
    let count = columns-first text items c.columns.result c.unwrap_or-count.result first c.columns.ensures c.unwrap_or-count.ensures in
    let none : (column_count settings (sniffed settings kept) ≡ 0) ⊎ (length (limited settings.rows kept) ≡ 0) =
    elim c.then-count-eq0.branch [
      | then-count-eq0-via-then-count-eq0 w ↦ inl (sym count ∙ w.if-count-eq0.true)
      | then-count-eq0-via-else-count-eq0+then-up_to-eq0 w ↦ inr
          (shown-long text items w.len.ensures settings.rows w.up_to.result w.up_to.ensures ∙ w.if-up_to-eq0.true)
    ] in
    let sent = g.S.TextSink.sent c.args.sink.now in
    let streams = unshown settings config kept taken.whole sent (unshown-enough taken.whole first none) none in
    (items, taken.whole, h.ok, permitted-first first, streams)

-- nothing was printed, since an allocation failed or the total width is out of range
pub returns-in_err-layout : goal.returns-in_err-layout
returns-in_err-layout g c =
    let settings = c.args.settings.now in
    let config = c.args.config.now in
    let taken = c.in_ok-taken.taken in
    let text = g.C.CellText.text in
    let items = taken.rows in
    let kept = map (map text) items in
    let shown = shown-long text items c.len.ensures settings.rows c.up_to.result c.up_to.ensures in
    let h = c.in_ok-taken.ensures in
    let first = taken-first settings text items taken.whole c.first_rows.result h.within (λ o. (h.open o).0) c.first_rows.ensures.ahead
    c.first_rows.ensures.needed c.first_rows.ensures.none in
    let count = columns-first text items c.columns.result c.unwrap_or-count.result first c.columns.ensures c.unwrap_or-count.ensures in
    let sent = g.S.TextSink.sent c.args.sink.now in (
      items,
      taken.whole,
      h.ok,
      permitted-first first,
      unplanned config sent c.from_residual-in_err-layout.result c.in_err-layout.field-0.0 first
          (omega (arith, count, c.if-count-eq0.false)) (omega (arith, shown, c.if-up_to-eq0.false)) c.from_residual-in_err-layout.ensures.1
          c.in_err-layout.ensures.err,
    )

pub returns-in_default : goal.returns-in_default
returns-in_default g c =
    let settings = c.args.settings.now in
    let config = c.args.config.now in
    let taken = c.in_ok-taken.taken in
    let text = g.C.CellText.text in
    let items = taken.rows in
    let kept = map (map text) items in
    let shown = shown-long text items c.len.ensures settings.rows c.up_to.result c.up_to.ensures in
    let h = c.in_ok-taken.ensures in
    let first = taken-first settings text items taken.whole c.first_rows.result h.within (λ o. (h.open o).0) c.first_rows.ensures.ahead
    c.first_rows.ensures.needed c.first_rows.ensures.none in
    let count = columns-first text items c.columns.result c.unwrap_or-count.result first c.columns.ensures c.unwrap_or-count.ensures in
    let over = total-laid c.in_ok-layout.ensures.ok in
    let sent = g.S.TextSink.sent c.args.sink.now in (
      items,
      taken.whole,
      h.ok,
      permitted-first first,
      unplanned {R = Unit {0}} config sent (Err Range) Range first (omega (arith, count, c.if-count-eq0.false))
          (omega (arith, shown, c.if-up_to-eq0.false)) refl (inl (refl, omega (arith, over, c.in_default.ensures))),
    )

pub lay_out-requires-clause-count : goal.lay_out-requires-clause-count
lay_out-requires-clause-count g c =
    let settings = c.args.settings.now in
    let items = c.in_ok-taken.taken.rows in
    let text = g.C.CellText.text in
    let h = c.in_ok-taken.ensures in
    let first = taken-first settings text items c.in_ok-taken.taken.whole c.first_rows.result h.within (λ o. (h.open o).0)
    c.first_rows.ensures.ahead c.first_rows.ensures.needed c.first_rows.ensures.none in
    columns-first text items c.columns.result c.unwrap_or-count.result first c.columns.ensures c.unwrap_or-count.ensures

pub write_all-requires-clause-some : goal.write_all-requires-clause-some
write_all-requires-clause-some g c =
    let settings = c.args.settings.now in
    let items = c.in_ok-taken.taken.rows in
    let text = g.C.CellText.text in
    let h = c.in_ok-taken.ensures in
    let first = taken-first settings text items c.in_ok-taken.taken.whole c.first_rows.result h.within (λ o. (h.open o).0)
    c.first_rows.ensures.ahead c.first_rows.ensures.needed c.first_rows.ensures.none in
    let count = columns-first text items c.columns.result c.unwrap_or-count.result first c.columns.ensures c.unwrap_or-count.ensures in
    let laid = c.in_ok-layout.ensures.ok.count in
    rw c.new.ensures.columns (omega (arith, laid, count, c.if-count-eq0.false))

pub invariant_of-columns : goal.invariant_of-columns
invariant_of-columns g c = record {
  in_range = λ column h.
      let layout = c.in_ok-layout.layout in
      let within = width-in-total layout column h in
      let whole = c.in-Some.ensures.1 in
      omega arith;
}

pub write_all-requires-clause-filled : goal.write_all-requires-clause-filled
write_all-requires-clause-filled g c =
    let shown = shown-long g.C.CellText.text c.in_ok-taken.taken.rows c.len.ensures c.args.settings.now.rows c.up_to.result c.up_to.ensures in
    rw c.new.ensures.columns (omega (arith, shown, c.if-up_to-eq0.false))

pub write_all-requires-clause-kept : goal.write_all-requires-clause-kept
write_all-requires-clause-kept g c =
    let items = c.in_ok-taken.taken.rows in
    let h = c.in_ok-taken.ensures in
    rw c.new.ensures.columns
    (taken-first c.args.settings.now g.C.CellText.text items c.in_ok-taken.taken.whole c.first_rows.result h.within (λ o. (h.open o).0)
    c.first_rows.ensures.ahead c.first_rows.ensures.needed c.first_rows.ensures.none)

pub write_all-requires-clause-in_range : goal.write_all-requires-clause-in_range
write_all-requires-clause-in_range g c =
    let e = c.in-Some.ensures in
    rw c.new.ensures.columns (omega (arith, e.0, e.1))

pub returns : goal.returns
returns g c =
    let settings = c.args.settings.now in
    let config = c.args.config.now in
    let taken = c.in_ok-taken.taken in
    let text = g.C.CellText.text in
    let items = taken.rows in
    let kept = map (map text) items in
    let h = c.in_ok-taken.ensures in
    let first = taken-first settings text items taken.whole c.first_rows.result h.within (λ o. (h.open o).0) c.first_rows.ensures.ahead
    c.first_rows.ensures.needed c.first_rows.ensures.none in
    let count = columns-first text items c.columns.result c.unwrap_or-count.result first c.columns.ensures c.unwrap_or-count.ensures in
    let laid = c.in_ok-layout.ensures.ok in
    let o = rw c.new.ensures.columns at c.write_all.ensures in
    let F : ℕ → ℕ → Type 0 = λ k m. AreFurther settings.rows k taken.whole m o.1 in
    let further = subst (λ m. F (length kept) m) (sym (length-map o.0 (map text))) (subst (λ k. F k (length o.0)) (sym (texts-long text items)) o.2) in
    let P : List (List (List ℕ)) → Type 0 = ArePermitted settings in
    let S : List (List (List ℕ)) → Type 0 = λ rows. Streams (read_of settings config rows o.1) (g.S.TextSink.sent c.args.sink.now) c.write_all.result
    (g.S.TextSink.sent c.write_all.new.sink) in
    let texts : map (map text) (items ++ o.0) ≡ kept ++ map (map text) o.0 = map-append (map text) items o.0 in (
      items ++ o.0,
      o.1,
      o.3 c.args.rows.now h.ok,
      subst P (sym texts) (permitted-more first (map (map text) o.0) o.1 further (omega (arith, count, c.if-count-eq0.false))),
      subst S (sym texts) (o.4 config laid (c.in-Some.ensures.0 ∙ total-laid laid)),
    )
