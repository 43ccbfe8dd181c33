use Rattle.std.proofs.Common.{ap, false, is_err, subst, sym, Some, ◌∙◌, ◌≡◌}
use Rattle.std.proofs.lemmas.List.Elements.{All-nil}
use Rattle.std.specs.List.{All}
use Rattle.std.specs.Str.{IsUtf8}
use Rattle.tabled_base.specs.Cells.{with_record}
use Rattle.tabled_serde.proofs.Texts.{strings-texts, texts-more}
use Rattle.tabled_serde.specs.Reader.{bytes_of}
use Rattle.tabled_serde.proofs.Failing.{passed}
use Rattle.tabled_serde.proofs.RowLengths.{rows-stay}
use Rattle.tabled_serde.proofs.Yielding.{all-given, at-failure, none-given, on-success, row-given, row-texts}
use Rattle.tabled_serde.specs.RowErrors.{IsSourceError, no_memory}
use Rattle.tabled_serde.specs.RowSteps.{row_steps}
use Rattle.tabled_serde.proofs.rows.builder.Goals as goal

pub rows-init : goal.rows-init
rows-init g c =
    let made = c.new-row-items.ensures in
    let same = c.into_iter-row-iterator.ensures.into_iter_gives in
    record {
      start = c.into_iter.result;
      made = c.into_iter.ensures.into_iter_gives;
      so_far = none-given g.I.IntoIter.Iterator.next_gives g.T.Described.writes g.T.OwnErrors.own_error c.args.none.now c.into_iter.result c.into_iter-row-iterator.result
          c.new-builder.result (sym (ap (λ s. s.values) same ∙ made.values)) (ap (λ s. s.none.now) same ∙ made.none)
          (ap (λ s. s.header) same ∙ made.header) (ap (λ s. s.first) same ∙ made.first) c.new-builder.ensures;
      texts = subst (All (All IsUtf8)) (sym c.new-builder.ensures) (All-nil (All IsUtf8));
    }

pub rows-preserved : goal.rows-preserved
rows-preserved g c =
    let steps = g.I.IntoIter.Iterator.next_gives in
    let writes = g.T.Described.writes in
    let own = g.T.OwnErrors.own_error in
    let none : is_err c.add_record.result ≡ false = sym c.is_err.ensures.value ∙ c.if-is_err.false in
    let came = on-success c.add_record.result none c.add_record.ensures.ok in
    let more =
    came.2 ∙ ap (λ r. with_record c.rows.builder r) (row-texts c.in_ok-row.row came.1.iterator came.0 came.1.made.0 came.1.drained) in
    record {
      start = c.rows.invariant.start;
      made = c.rows.invariant.made;
      so_far = row-given steps writes own c.args.none.now c.rows.invariant.start c.rows.row-iterator c.next.new.self c.in_ok-row.row c.rows.builder
          c.add_record.new.self c.rows.invariant.so_far
          (subst (λ o. row_steps steps writes own c.rows.row-iterator (Some o) c.next.new.self) c.in_ok-row.was c.in-Some.ensures.steps)
          more;
      texts = subst (All (All IsUtf8)) (sym more)
          (texts-more c.rows.builder (bytes_of c.in_ok-row.row) c.rows.invariant.texts (strings-texts c.in_ok-row.row.items));
    }

pub returns-clause-ok : goal.returns-clause-ok
returns-clause-ok g c =
    let i = c.rows.invariant in
    let all = all-given g.I.IntoIter.Iterator.next_gives g.T.Described.writes g.T.OwnErrors.own_error c.args.none.now i.start c.rows.row-iterator c.next.new.self c.rows.builder
    i.so_far c.in-None.ensures.steps in
    (i.so_far.items, i.so_far.rows, record { iterator = i.start; made = i.made; drained = all.0 }, all.1, i.so_far.built_are ∙ rows-stay g.T.Described.writes c.args.none.now i.so_far.items i.so_far.rows all.1)

pub returns-clause-texts : goal.returns-clause-texts
returns-clause-texts g c = c.rows.invariant.texts

pub returns-in_err-row-clause-failed : goal.returns-in_err-row-clause-failed
returns-in_err-row-clause-failed g c =
    let steps = g.I.IntoIter.Iterator.next_gives in
    let writes = g.T.Described.writes in
    let own = g.T.OwnErrors.own_error in
    let becomes = g.I.IntoIterator.into_iter_gives in
    let i = c.rows.invariant in
    let e = c.in_err-row.field-0.0 in
    passed (IsSourceError (record { source = c.args.values; becomes = becomes; steps = steps; writes = writes; own = own; none = c.args.none.now }))
    c.from_residual.result e c.from_residual.ensures.1
    (at-failure steps writes own c.args.none.now becomes c.args.values i.start c.rows.row-iterator c.next.new.self e c.rows.builder i.made i.so_far
    (subst (λ o. row_steps steps writes own c.rows.row-iterator (Some o) c.next.new.self) c.in_err-row.was c.in-Some.ensures.steps))

pub returns-then-is_err-clause-failed : goal.returns-then-is_err-clause-failed
returns-then-is_err-clause-failed g c = no_memory
