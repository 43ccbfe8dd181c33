use Rattle.std.proofs.Common.{IfErr, Some, map, subst, ◌∙◌}
use Rattle.tabled_serde.proofs.Failing.{events-fail, own-fails}
use Rattle.tabled_serde.specs.Errors.{IsRecordError}
use Rattle.tabled_serde.specs.Events.{event_of}
use Rattle.tabled_serde.proofs.record.read_record.Goals as goal

pub returns-in_err-send-clause-failed : goal.returns-in_err-send-clause-failed
returns-in_err-send-clause-failed g c =
    own-fails g.T.Described.writes g.T.OwnErrors.own_error c.args.none.now c.args.value.now c.in_err-send.field-0.0 c.from_residual.result
    c.in_err-send.ensures.own c.from_residual.ensures.1

pub returns-clause-failed : goal.returns-clause-failed
returns-clause-failed g c =
    let writes = g.T.Described.writes in
    let events = map event_of c.send.new.events.steps.items in
    events-fail writes g.T.OwnErrors.own_error c.args.none.now c.args.value.now events c.read.result
    (subst (λ es. writes c.args.value.now (Some (map event_of es)) (Some events)) c.new-events.ensures c.in_ok-send.ensures.written)
    (subst (λ n. IfErr c.read.result (IsRecordError n events)) c.new-reader.ensures.none
    (subst (λ ss. IfErr c.read.result (IsRecordError c.new-reader.result.none.now (map event_of ss)))
    (c.new-reader.ensures.steps ∙ c.as_slice.ensures.value) c.read.ensures.failed))
