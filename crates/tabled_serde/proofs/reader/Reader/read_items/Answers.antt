use Rattle.std.proofs.Common.{[], ap, arith, map, string_bytes, subst, sym, ◌++◌, ◌∙◌, ◌∷◌}
use Rattle.tabled_serde.specs.Events.{event_of}
use Rattle.tabled_serde.specs.Errors.{NoItemsFirst, NoTextIs}
use Rattle.tabled_serde.specs.Reader.{bytes_of, left}
use Rattle.tabled_serde.proofs.Steps.{no-end}
use Rattle.tabled_serde.specs.Records.{IsText}
use Rattle.tabled_serde.proofs.Reading.{item-read}
use Rattle.tabled_serde.proofs.Failing.{named, no-item, no-items, no-items-left}
use Rattle.tabled_serde.proofs.reader.Reader.read_items.Goals as goal

pub items-preserved : goal.items-preserved
items-preserved c =
    let same = c.in-Some.ensures.none ∙ c.items.invariant.none in
    let s = c.items.invariant.read in
    record {
      none = same;
      fewer = omega (arith, c.in-Some.ensures.fewer, c.items.invariant.fewer);
      read = item-read c.args.self.now.none.now (left c.args.self.now) s.0 (left c.items.self) (left c.next.new.self) (event_of c.in-Some.step.now)
          c.items.items c.push.new.self c.in-Some-2.text s.1 s.2 (ap (map event_of) c.in-Some.ensures.took)
          (subst (λ n. IsText n (event_of c.in-Some.step.now) (string_bytes c.in-Some-2.text)) same
          (rw c.in-Some-2.is at c.in_ok-text.ensures.ok)) c.in_ok-push-in-Some-2.ensures.items;
    }

pub returns-in-None : goal.returns-in-None
returns-in-None c =
    let same = c.in-Some.ensures.none ∙ c.items.invariant.none in
    let s = c.items.invariant.read in
    let none = c.args.self.now.none.now in
    let no_text = subst (λ n. NoTextIs (IsText n (event_of c.in-Some.step.now))) same (rw c.in-None.is at c.in_ok-text.ensures.ok) in
    record {
      none = same;
      fewer = omega (arith, c.in-Some.ensures.fewer, c.items.invariant.fewer);
      ok = tt;
      failed = named c.args.name.now c.nested.result
          (subst (λ es. NoItemsFirst none es) (sym (s.2 ∙ ap (λ r. s.0 ++ r) (ap (map event_of) c.in-Some.ensures.took)))
          (no-items none s.0 (event_of c.in-Some.step.now ∷ left c.next.new.self) (bytes_of c.items.items) s.1
          (no-item none (event_of c.in-Some.step.now) (left c.next.new.self) (no-end c.in-Some.step.now c.in_default-step.not-EndList) no_text)))
          c.nested.ensures;
    }

pub returns-clause-failed : goal.returns-clause-failed
returns-clause-failed c =
    let s = c.items.invariant.read in
    let none = c.args.self.now.none.now in
    named c.args.name.now c.nested-2.result
    (subst (λ es. NoItemsFirst none es) (sym (s.2 ∙ ap (λ r. s.0 ++ r) (ap (map event_of) c.in_default.ensures.took)))
    (no-items none s.0 [] (bytes_of c.items.items) s.1 (no-items-left none))) c.nested-2.ensures
