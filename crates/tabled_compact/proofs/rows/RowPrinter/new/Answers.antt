use Rattle.tabled_compact.proofs.Names.{CompactSheet, Err, IsErrAnd, FailsToPrintCompact, Ok, Result, TableError, sheet_by, subst, sym, ◌<◌, ◌≡◌, ◌≤◌}
use Rattle.std.proofs.Common.{◌^◌, IfErr}
use Rattle.tabled_compact.specs.CompactLines.{compact_width}
use Rattle.tabled_compact.proofs.rows.RowPrinter.new.Goals as goal

refused : {T : Type 0} (t : CompactSheet) (r : Result T TableError) (e : TableError) → IsErrAnd r (λ d. d ≡ e) → FailsToPrintCompact t e → IfErr r (FailsToPrintCompact t)
refused t (Ok x) e i h = absurd i
refused t (Err d) e i h = let P : TableError → Type 0 = λ k. FailsToPrintCompact t k in subst P (sym i) h

pub returns-in_err-columns-clause-err : goal.returns-in_err-columns-clause-err
returns-in_err-columns-clause-err g c =
    let t = sheet_by c.args.config.now (g.D.Dimension.width_at c.args.dimension.now) c.args.count in
    let short = c.in_err-columns.ensures.err in
    let P : TableError → Type 0 = λ k. FailsToPrintCompact t k in
    refused t c.from_residual.result _ c.from_residual.ensures.1 (subst P (sym short.0) short.1)

pub returns-in-Some-clause-printable : goal.returns-in-Some-clause-printable
returns-in-Some-clause-printable g c =
    let P : CompactSheet → Type 0 = λ s. compact_width s < 2 ^ 64 in
    record { sized = c.in_ok-columns.ensures.sized; in_range = subst P c.in_ok-columns.ensures.ok c.in-Some.ensures.1 }

pub returns-in-None-clause-err : goal.returns-in-None-clause-err
returns-in-None-clause-err g c =
    let P : CompactSheet → Type 0 = λ s. 2 ^ 64 ≤ compact_width s in
    (c.in_ok-columns.ensures.sized, subst P c.in_ok-columns.ensures.ok c.in-None.ensures)
