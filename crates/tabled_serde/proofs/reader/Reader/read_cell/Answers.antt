use Rattle.std.proofs.Common.{IfOk, List, ap, map, string_bytes, subst, sym, ◌++◌, ◌∙◌, ◌∷◌, ◌≡◌}
use Rattle.std.specs.List.{AllZip}
use Rattle.serde.specs.Event.{Event, seq_ends}
use Rattle.tabled_serde.specs.Errors.{IsNested, NoCellFirst, NoItemsFirst}
use Rattle.tabled_serde.specs.Events.{event_of}
use Rattle.tabled_serde.specs.Reader.{bytes_of, left}
use Rattle.tabled_serde.specs.Records.{IsText, joined}
use Rattle.tabled_serde.proofs.Reading.{list-read, text-read}
use Rattle.tabled_serde.proofs.Failing.{no-list, passed, with-reason}
use Rattle.tabled_serde.proofs.reader.Reader.read_cell.Goals as goal

pub returns-in-BeginList-clause-ok : goal.returns-in-BeginList-clause-ok
returns-in-BeginList-clause-ok c =
    list-read c.args.self.now.none.now (left c.args.self.now) (left c.next.new.self) (left c.read_items.new.self) c.in-BeginList.field-0
    c.in_ok-items.items c.joined_text.result
    (ap (map event_of) c.in-Some.ensures.took ∙ ap (λ s. event_of s ∷ left c.next.new.self) c.in-BeginList.is)
    (subst (λ n. (events : List Event) × AllZip (IsText n) events (bytes_of c.in_ok-items.items)
    × (left c.next.new.self ≡ events ++ seq_ends ∷ left c.read_items.new.self)) c.in-Some.ensures.none c.in_ok-items.ensures.ok)
    (subst (λ ts. IfOk c.joined_text.result (λ t. string_bytes t ≡ joined (map string_bytes ts))) c.as_slice.ensures.value c.joined_text.ensures.ok)

pub returns-in-Some-2-clause-ok : goal.returns-in-Some-2-clause-ok
returns-in-Some-2-clause-ok c =
    text-read c.args.self.now.none.now c.next.new.self.none.now (event_of c.in-Some.step.now) (left c.args.self.now) (left c.next.new.self)
    (string_bytes c.in-Some-2.text) c.in-Some.ensures.none (ap (map event_of) c.in-Some.ensures.took)
    (rw c.in-Some-2.is at c.in_ok-text.ensures.ok)

pub returns-in_err-items-clause-failed : goal.returns-in_err-items-clause-failed
returns-in_err-items-clause-failed c =
    let none = c.args.self.now.none.now in
    let took = ap (map event_of) c.in-Some.ensures.took ∙ ap (λ s. event_of s ∷ left c.next.new.self) c.in-BeginList.is in
    passed (IsNested c.args.name.now (NoCellFirst none (left c.args.self.now))) c.from_residual.result c.in_err-items.field-0.0 c.from_residual.ensures.1
    (with-reason c.args.name.now c.in_err-items.field-0.0
    (λ h. subst (λ es. NoCellFirst none es) (sym took) (no-list none c.in-BeginList.field-0 (left c.next.new.self)
    (subst (λ n. NoItemsFirst n (left c.next.new.self)) c.in-Some.ensures.none h))) c.in_err-items.ensures.failed)
