use Rattle.std.proofs.Common.{[], ap, append-nil, arith, map, refl, subst, sym, ◌∙◌, ◌∷◌}
use Rattle.serde.specs.Event.{flattens, map_ends}
use Rattle.tabled_serde.specs.Errors.{HasCause, IsFieldError, NoFieldFirst, NoNameFirst}
use Rattle.tabled_serde.specs.Events.{event_of}
use Rattle.tabled_serde.specs.Reader.{BeginsStruct, FieldRead, FieldsRead, bytes_of, left}
use Rattle.tabled_serde.specs.Records.{none_yet}
use Rattle.tabled_serde.proofs.Reading.{field-added, flattened-added, nothing-added}
use Rattle.tabled_serde.specs.declared.error.RowError.TheVariants.{Malformed}
use Rattle.tabled_serde.proofs.Failing.{field-cause, field-fails, inner-fails, never-ok, passed}
use Rattle.tabled_serde.proofs.Steps.{no-field}
use Rattle.tabled_serde.proofs.reader.Reader.+read_fields.Goals as goal

pub fields-init : goal.fields-init
fields-init t c = record {
  none = refl;
  fewer = omega arith;
  read = record {
    inside = [];
    names = [];
    cells = [];
    fields = none_yet;
    read = refl;
    names_are = sym (append-nil (bytes_of c.args.fields.now.names));
    cells_are = sym (append-nil (bytes_of c.args.fields.now.cells));
  };
}

pub fields-preserved : goal.fields-preserved
fields-preserved t c =
    let same = c.in-Some.ensures.none ∙ c.fields.invariant.none in
    record {
      none = c.in_ok-read_field-in_default-step.ensures.none ∙ same;
      fewer = omega (arith, c.in-Some.ensures.fewer, c.fields.invariant.fewer, c.in_ok-read_field-in_default-step.ensures.fewer);
      read = field-added c.args.self.now.none.now (left c.args.self.now) (left c.fields.self) (left c.read_field.new.self) c.args.fields.now
          c.fields.fields c.read_field.new.fields c.fields.invariant.read
          (subst (λ es. FieldRead c.args.self.now.none.now es (left c.read_field.new.self) c.fields.fields c.read_field.new.fields)
          (sym (ap (map event_of) c.in-Some.ensures.took))
          (subst (λ n. FieldRead n (event_of c.in-Some.step.now ∷ left c.next.new.self) (left c.read_field.new.self) c.fields.fields c.read_field.new.fields)
          same c.in_ok-read_field-in_default-step.ensures.ok));
    }

pub fields-preserved-else-branch : goal.fields-preserved-else-branch
fields-preserved-else-branch t c =
    let same = c.in-Some.ensures.none ∙ c.fields.invariant.none in
    let flat = ap (map event_of) c.in-Some.ensures.took ∙ ap (λ s. event_of s ∷ left c.next.new.self) c.in-Flatten.is in
    let begins = subst (λ b. BeginsStruct b (left c.next.new.self) (left c.begins_struct.new.self)) c.if-branch.false
    c.in_ok-begins_struct-in-Flatten.ensures.ok in
    record {
      none = c.in_ok-begins_struct-in-Flatten.ensures.none ∙ same;
      fewer = omega (arith, c.in-Some.ensures.fewer, c.fields.invariant.fewer, c.in_ok-begins_struct-in-Flatten.ensures.fewer);
      read = nothing-added c.args.self.now.none.now (left c.args.self.now) (left c.fields.self) (left c.begins_struct.new.self) c.args.fields.now
          c.fields.fields c.fields.invariant.read (flat ∙ ap (λ r. flattens ∷ r) begins);
    }

pub fields-preserved-in-Continue-branch-2 : goal.fields-preserved-in-Continue-branch-2
fields-preserved-in-Continue-branch-2 t c =
    let same = c.in_ok-begins_struct-in-Flatten.ensures.none ∙ c.in-Some.ensures.none ∙ c.fields.invariant.none in
    let flat = ap (map event_of) c.in-Some.ensures.took ∙ ap (λ s. event_of s ∷ left c.next.new.self) c.in-Flatten.is in
    let begins = subst (λ b. BeginsStruct b (left c.next.new.self) (left c.begins_struct.new.self)) c.if-branch.true
    c.in_ok-begins_struct-in-Flatten.ensures.ok in
    record {
      none = c.in_ok-read_fields-in-Flatten.ensures.none ∙ same;
      fewer = omega (
        arith,
        c.in-Some.ensures.fewer,
        c.fields.invariant.fewer,
        c.in_ok-begins_struct-in-Flatten.ensures.fewer,
        c.in_ok-read_fields-in-Flatten.ensures.fewer,
      );
      read = flattened-added c.args.self.now.none.now (left c.args.self.now) (left c.fields.self) (left c.begins_struct.new.self)
          (left c.read_fields.new.self) begins.0 c.args.fields.now c.fields.fields c.read_fields.new.fields c.fields.invariant.read
          (flat ∙ ap (λ r. flattens ∷ r) begins.1)
          (subst (λ n. FieldsRead n (left c.begins_struct.new.self) (map_ends ∷ left c.read_fields.new.self) c.fields.fields c.read_fields.new.fields)
          same c.in_ok-read_fields-in-Flatten.ensures.ok);
    }

pub returns-in_err-begins_struct-in-Flatten-clause-failed : goal.returns-in_err-begins_struct-in-Flatten-clause-failed
returns-in_err-begins_struct-in-Flatten-clause-failed t c =
    let none = c.args.self.now.none.now in
    let events = left c.args.self.now in
    let flat = ap (map event_of) c.in-Some.ensures.took ∙ ap (λ s. event_of s ∷ left c.next.new.self) c.in-Flatten.is in
    let e = c.in_err-begins_struct-in-Flatten.field-0.0 in
    let h = c.in_err-begins_struct-in-Flatten.ensures.failed in
    passed (IsFieldError none events) c.from_residual.result e c.from_residual.ensures.1
    (subst (λ e. IsFieldError none events e) (sym h.0)
    (field-fails none events (left c.fields.self) c.args.fields.now c.fields.fields Malformed c.fields.invariant.read
    (subst (λ es. NoFieldFirst es) (sym flat) h.1)))

pub returns-in_err-read_fields-in-Flatten-clause-failed : goal.returns-in_err-read_fields-in-Flatten-clause-failed
returns-in_err-read_fields-in-Flatten-clause-failed t c =
    let none = c.args.self.now.none.now in
    let events = left c.args.self.now in
    let flat = ap (map event_of) c.in-Some.ensures.took ∙ ap (λ s. event_of s ∷ left c.next.new.self) c.in-Flatten.is in
    let same = c.in_ok-begins_struct-in-Flatten.ensures.none ∙ c.in-Some.ensures.none ∙ c.fields.invariant.none in
    let begins = subst (λ b. BeginsStruct b (left c.next.new.self) (left c.begins_struct.new.self)) c.if-branch.true
    c.in_ok-begins_struct-in-Flatten.ensures.ok in
    let e = c.in_err-read_fields-in-Flatten.field-0.0 in
    passed (IsFieldError none events) c.from_residual-in_err-read_fields-in-Flatten.result e c.from_residual-in_err-read_fields-in-Flatten.ensures.1
    (inner-fails none events (left c.fields.self) (left c.begins_struct.new.self) begins.0 c.args.fields.now c.fields.fields e c.fields.invariant.read
    (flat ∙ ap (λ r. flattens ∷ r) begins.1)
    (subst (λ n. IsFieldError n (left c.begins_struct.new.self) e) same c.in_err-read_fields-in-Flatten.ensures.failed))

pub returns-in_err-read_field-in_default-step : goal.returns-in_err-read_field-in_default-step
returns-in_err-read_field-in_default-step t c =
    let none = c.args.self.now.none.now in
    let events = left c.args.self.now in
    let same = c.in-Some.ensures.none ∙ c.fields.invariant.none in
    let e = c.in_err-read_field-in_default-step.field-0.0 in
    let took = event_of c.in-Some.step.now ∷ left c.next.new.self in
    let h = c.in_err-read_field-in_default-step.ensures in
    let r = c.from_residual-in_err-read_field-in_default-step.result in
    record {
      none = h.none ∙ same;
      fewer = omega (arith, c.in-Some.ensures.fewer, c.fields.invariant.fewer, h.fewer);
      ok = never-ok _ r c.from_residual-in_err-read_field-in_default-step.ensures.0;
      failed = passed (IsFieldError none events) r e c.from_residual-in_err-read_field-in_default-step.ensures.1
          (field-fails none events (left c.fields.self) c.args.fields.now c.fields.fields e c.fields.invariant.read
          (subst (λ es. HasCause none NoFieldFirst es e) (sym (ap (map event_of) c.in-Some.ensures.took))
          (field-cause none took e
          (no-field c.in-Some.step.now (left c.next.new.self) c.in_default-step.not-EndMap c.in_default-step.not-Flatten)
          (subst (λ n. HasCause n NoNameFirst took e) same h.failed))));
    }

pub returns-clause-failed : goal.returns-clause-failed
returns-clause-failed t c =
    let none = c.args.self.now.none.now in
    let events = left c.args.self.now in
    field-fails none events (left c.fields.self) c.args.fields.now c.fields.fields Malformed c.fields.invariant.read
    (subst (λ es. NoFieldFirst es) (sym (ap (map event_of) c.in_default.ensures.took)) tt)
