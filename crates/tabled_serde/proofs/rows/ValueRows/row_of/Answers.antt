use Rattle.std.proofs.Common.{IfErr, Some, map, refl, string_bytes, subst}
use Rattle.tabled_serde.proofs.Failing.{passed}
use Rattle.tabled_serde.proofs.Stepping.{cloned-bytes, columns-fail, header-row, value-fails}
use Rattle.tabled_serde.specs.Errors.{of_value}
use Rattle.tabled_serde.specs.Reader.{bytes_of}
use Rattle.tabled_serde.specs.RowErrors.{IsColumnError}
use Rattle.tabled_serde.specs.RowSteps.{FailsAt}
use Rattle.tabled_serde.specs.declared.error.RowError.TheVariants.{Memory}
use Rattle.tabled_serde.specs.declared.rows.ValueRows.{ValueRows}
use Rattle.tabled_serde.proofs.rows.ValueRows.row_of.Goals as goal

pub returns-clause-gives : goal.returns-clause-gives
returns-clause-gives g c =
    let s = c.args.self.now in
    let fields = c.in_ok-fields.fields in
    let t : ValueRows g.row.I.Denot = record {
      alloc = s.alloc;
      values = s.values;
      none = s.none;
      header = Some c.in_ok-header.header;
      first = Some fields.cells;
    } in
    header-row g.T.Described.writes g.T.OwnErrors.own_error s t c.args.value.now (bytes_of fields.names) c.in_default.is (record {
      names = bytes_of fields.names;
      cells = bytes_of fields.cells;
      fields = c.in_ok-fields.ensures.fields;
      row_is = refl;
      header_kept = cloned-bytes fields.names.items c.in_ok-header.header.items c.in_ok-header.ensures.cases.0;
      first_kept = refl;
      same = refl;
    })

pub returns-in_err-fields-clause-failed : goal.returns-in_err-fields-clause-failed
returns-in_err-fields-clause-failed g c =
    let s = c.args.self.now in
    let e = c.in_err-fields.field-0.0 in
    passed (FailsAt g.T.Described.writes g.T.OwnErrors.own_error s c.args.value.now) c.from_residual.result e c.from_residual.ensures.1
    (value-fails g.T.Described.writes g.T.OwnErrors.own_error s c.args.value.now e c.in_err-fields.ensures.failed)

pub returns-in_err-header-clause-failed : goal.returns-in_err-header-clause-failed
returns-in_err-header-clause-failed g c =
    let s = c.args.self.now in
    passed (FailsAt g.T.Described.writes g.T.OwnErrors.own_error s c.args.value.now) c.from_residual-in_err-header.result Memory c.from_residual-in_err-header.ensures.1
    (value-fails g.T.Described.writes g.T.OwnErrors.own_error s c.args.value.now Memory (of_value Memory tt))

pub returns-in-Some-clause-failed : goal.returns-in-Some-clause-failed
returns-in-Some-clause-failed g c =
    let fields = c.in_ok-fields.fields in
    columns-fail g.T.Described.writes g.T.OwnErrors.own_error c.args.self.now c.args.value.now c.in-Some.header (bytes_of fields.names) (bytes_of fields.cells)
    c.cells_below.result c.in-Some.is c.in_ok-fields.ensures.fields
    (subst (λ hs. IfErr c.cells_below.result (IsColumnError (map string_bytes hs) (bytes_of fields.names))) c.as_slice.ensures.value
    c.cells_below.ensures.failed)
