use Rattle.tabled_compact.proofs.Names.{[], false, map, map-append, refl, true, ◌++◌, ◌∙◌, ◌∷◌, ◌≡◌}
use Rattle.tabled_records.proofs.RowsRead.{may-cells, may-step, reads-both, reads-none, reads-one, reads-open, reads-whole}
use Rattle.tabled_compact.proofs.Putting.{have-all, have-enough, have-more, have-none, have-stopped}
use Rattle.tabled_compact.proofs.rows.RowPrinter.print_wanted_rows.Goals as goal

pub rows-init : goal.rows-init
rows-init g c =
    let self = c.args.self.now in
    record {
      cells = [];
      reads = reads-none c.args.rows.now;
      may = c.requires.may;
      put = have-none self.lines.columns c.args.window (g.S.TextSink.sent c.args.sink.now) self.lines.begun c.requires.begun;
      left = c.requires.wanted;
      same = refl;
    }

pub print_next_row-requires : goal.print_next_row-requires
print_next_row-requires g c = may-cells c.rows.invariant.may c.in-Some.ensures.steps

pub returns-in_err-print_next_row-clause-put : goal.returns-in_err-print_next_row-clause-put
returns-in_err-print_next_row-clause-put g c =
    let i = c.rows.invariant in
    let put = rw i.same at c.in_err-print_next_row.ensures.put in
    let text = map g.C.CellText.text in
    let texts : map text (i.cells ++ put.0 ∷ []) ≡ map text i.cells ++ text put.0 ∷ [] = map-append text i.cells (put.0 ∷ []) in (
      i.cells ++ put.0 ∷ [],
      false,
      reads-open (reads-both i.reads (reads-one c.in-Some.ensures.steps put.1)),
      rw texts
          (have-stopped i.put i.left c.requires.wanted c.from_residual.result _ _ _ (text put.0) put.2
          c.in_err-print_next_row.ensures.failed c.from_residual.ensures.1),
    )

pub returns-then-is_spent-clause-put : goal.returns-then-is_spent-clause-put
returns-then-is_spent-clause-put g c =
    let i = c.rows.invariant in
    let put = rw i.same at c.in_ok-print_next_row.ensures.put in
    let text = map g.C.CellText.text in
    let texts : map text (i.cells ++ put.0 ∷ []) ≡ map text i.cells ++ text put.0 ∷ [] = map-append text i.cells (put.0 ∷ []) in (
      i.cells ++ put.0 ∷ [],
      false,
      reads-open (reads-both i.reads (reads-one c.in-Some.ensures.steps put.1)),
      rw texts
          (have-enough i.put i.left c.requires.wanted tt _ _ c.print_next_row.new.window (text put.0) put.2
          c.in_ok-print_next_row.ensures.left (c.if-is_spent.ensures.0 refl)),
    )

pub rows-preserved : goal.rows-preserved
rows-preserved g c =
    let i = c.rows.invariant in
    let put = rw i.same at c.in_ok-print_next_row.ensures.put in
    let text = map g.C.CellText.text in
    let texts : map text (i.cells ++ put.0 ∷ []) ≡ map text i.cells ++ text put.0 ∷ [] = map-append text i.cells (put.0 ∷ []) in
    let on = c.in-Some.ensures.goes.on i.may.ends in
    record {
      cells = i.cells ++ put.0 ∷ [];
      reads = reads-both i.reads (reads-one c.in-Some.ensures.steps put.1);
      may = may-step i.may c.in-Some.ensures.steps on.0 on.1;
      put = rw texts (have-more i.put i.left _ _ c.print_next_row.new.window (text put.0) put.2 c.in_ok-print_next_row.ensures.left);
      left = λ h. let no : false ≡ true = c.if-is_spent.ensures.1 h in cc;
      same = c.in_ok-print_next_row.ensures.same ∙ i.same;
    }

pub returns-clause-put : goal.returns-clause-put
returns-clause-put g c =
    let i = c.rows.invariant in
    (i.cells, true, reads-whole i.reads c.in_default.ensures.steps, have-all i.put i.left c.requires.wanted tt)
