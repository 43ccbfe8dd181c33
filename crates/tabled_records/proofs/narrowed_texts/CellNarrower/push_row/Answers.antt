use Rattle.tabled_records.proofs.Names.{None, [], ap, arith, get_or, length, length-append, refl, subst, ◌∙◌, ◌∷◌, ◌≡◌}
use Rattle.std.proofs.lemmas.Result.{on_ok_weaker}
use Rattle.tabled_records.proofs.ToldTexts.{AreAdded, added-next, added-none, added-row}
use Rattle.tabled_records.specs.NarrowedTexts.{AddsTold}
use Rattle.tabled_records.proofs.narrowed_texts.CellNarrower.push_row.Goals as goal

pub columns-init : goal.columns-init
columns-init g c =
    let s = c.args.self.now in
    record {
      narrowing = refl;
      widths = refl;
      added = added-none (g.N.Narrowing.makes s.narrowing) (g.N.Narrowing.tells s.narrowing) s.widths.now c.args.rows.now c.args.row c.len-start.result s.texts
          c.requires.known c.len-start.ensures;
    }

pub line-columns-requires : goal.line-columns-requires
line-columns-requires g c =
    record { row_in = c.requires.inside; column_in = omega (arith, c.columns-test.true, c.count_cells-count.ensures.within) }

pub columns-preserved : goal.columns-preserved
columns-preserved g c =
    let s = c.args.self.now in
    let i = c.columns.invariant in
    let column = c.columns.column in
    let old = c.columns.self.texts in
    let new = c.push.new.self.texts in
    let text = c.line-columns.result.0.now in
    record {
      narrowing = c.in_ok-push.ensures.narrowing ∙ i.narrowing;
      widths = c.in_ok-push.ensures.widths ∙ i.widths;
      added = added-next (g.N.Narrowing.makes s.narrowing) (g.N.Narrowing.tells s.narrowing) s.widths.now c.args.rows.now c.args.row c.len-start.result column
          s.texts.ranges old new c.width_at.result text i.added
          (subst (λ by. AddsTold (g.N.Narrowing.makes by) (g.N.Narrowing.tells by) c.width_at.result text old new) i.narrowing c.in_ok-push.ensures.ok)
          c.in_ok-push.ensures.ranges (c.width_at.ensures ∙ ap (λ widths. get_or widths.now column None) i.widths) c.line-columns.ensures.text;
    }

pub returns-clause-known : goal.returns-clause-known
returns-clause-known g c =
    let s = c.args.self.now in
    let makes = g.N.Narrowing.makes s.narrowing in
    let tells = g.N.Narrowing.tells s.narrowing in
    let rows = c.args.rows.now in
    let start = c.len-start.result in
    let count = c.count_cells-count.result in
    let old = c.columns.self.texts in
    let all : c.columns.column ≡ count = omega (arith, c.columns-test.false, c.columns.auto.column-end) in
    on_ok_weaker c.push-2.result
    (λ e. added-row makes tells s.widths.now rows c.args.row start count s.texts.ranges old _
    (subst (λ n. AreAdded makes tells s.widths.now rows c.args.row start n s.texts.ranges old) all c.columns.invariant.added)
    c.requires.next c.count_cells-count.ensures.rest refl refl e)
    c.push-2.ensures.ok

pub returns-clause-next : goal.returns-clause-next
returns-clause-next g c =
    let old = c.columns.self.texts.ranges in
    let same = c.columns.invariant.added.same in
    on_ok_weaker c.push-2.result
    (λ e. omega (arith, c.requires.next, ap length e, length-append old ((c.len-start.result, c.count_cells-count.result) ∷ []), ap length same))
    c.push-2.ensures.ok
