use Rattle.std.proofs.Common.{subst, sym, ◌∷◌}
use Rattle.serde.specs.Event.{map_ends}
use Rattle.tabled_serde.proofs.Counting.{read-as_many}
use Rattle.tabled_serde.proofs.Failing.{more-follow, passed}
use Rattle.tabled_serde.proofs.Reading.{record-read}
use Rattle.tabled_serde.proofs.Steps.{none-left, some-left}
use Rattle.tabled_serde.specs.Errors.{IsFieldError, IsRecordError, in_field, no_struct}
use Rattle.tabled_serde.specs.Reader.{FieldsRead, left}
use Rattle.tabled_serde.specs.declared.reader.Record.{Record}
use Rattle.tabled_serde.proofs.reader.Reader.read.Goals as goal

pub returns-then-is_empty-clause-as_many : goal.returns-then-is_empty-clause-as_many
returns-then-is_empty-clause-as_many c = read-as_many c.in_ok-read_fields.ensures.ok c.new.ensures.items c.new-2.ensures.items

pub returns-in_err-begin-clause-failed : goal.returns-in_err-begin-clause-failed
returns-in_err-begin-clause-failed c =
    let none = c.args.self.none.now in
    let events = left c.args.self in
    let h = c.in_err-begin.ensures.failed in
    passed (IsRecordError none events) c.from_residual.result c.in_err-begin.field-0.0 c.from_residual.ensures.1
    (subst (λ e. IsRecordError none events e) (sym h.0) (no_struct h.1))

pub returns-in_err-read_fields-clause-failed : goal.returns-in_err-read_fields-clause-failed
returns-in_err-read_fields-clause-failed c =
    let none = c.args.self.none.now in
    let events = left c.args.self in
    let e = c.in_err-read_fields.field-0.0 in
    let begins = c.in_ok-begin.ensures.ok in
    passed (IsRecordError none events) c.from_residual-in_err-read_fields.result e c.from_residual-in_err-read_fields.ensures.1
    (in_field begins.0 (left c.begin.new.self) e begins.1
    (subst (λ n. IsFieldError n (left c.begin.new.self) e) c.in_ok-begin.ensures.none c.in_err-read_fields.ensures.failed))

pub returns-else-is_empty-clause-failed : goal.returns-else-is_empty-clause-failed
returns-else-is_empty-clause-failed c =
    let begins = c.in_ok-begin.ensures.ok in
    let old : Record = record { names = c.new.result; cells = c.new-2.result } in
    more-follow c.args.self.none.now (left c.args.self) (left c.begin.new.self) (left c.read_fields.new.self) begins.0 old c.read_fields.new.fields begins.1
    (subst (λ n. FieldsRead n (left c.begin.new.self) (map_ends ∷ left c.read_fields.new.self) old c.read_fields.new.fields)
    c.in_ok-begin.ensures.none c.in_ok-read_fields.ensures.ok)
    (some-left c.read_fields.new.self.steps.now c.is_empty.result c.is_empty.ensures c.if-is_empty.false)

pub returns-then-is_empty-clause-fields : goal.returns-then-is_empty-clause-fields
returns-then-is_empty-clause-fields c =
    let begins = c.in_ok-begin.ensures.ok in
    let old : Record = record { names = c.new.result; cells = c.new-2.result } in
    record-read c.args.self.none.now (left c.args.self) (left c.begin.new.self) (left c.read_fields.new.self) begins.0 old c.read_fields.new.fields begins.1
    c.new.ensures.items c.new-2.ensures.items
    (subst (λ n. FieldsRead n (left c.begin.new.self) (map_ends ∷ left c.read_fields.new.self) old c.read_fields.new.fields)
    c.in_ok-begin.ensures.none c.in_ok-read_fields.ensures.ok)
    (none-left c.read_fields.new.self.steps.now c.is_empty.result c.is_empty.ensures c.if-is_empty.true)
