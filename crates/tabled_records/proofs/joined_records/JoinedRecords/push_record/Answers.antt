use Rattle.tabled_records.proofs.Names.{AreRanges, ap, arith, length, length-append, map, rows_in, subst, sym, with_record, ◌-◌, ◌∙◌, ◌≡◌}
use Rattle.std.proofs.lemmas.Result.{on_err_weaker, on_ok_weaker}
use Rattle.tabled_records.proofs.Joining.{on-either, on-err}
use Rattle.tabled_records.proofs.Rows.{ranges-added, ranges-kept, rows-added, rows-kept}
use Rattle.tabled_records.proofs.joined_records.JoinedRecords.push_record.Goals as goal

pub invariant_of-self : goal.invariant_of-self
invariant_of-self g c =
    let more = c.push_texts.ensures.more in
    ranges-kept c.self.inside.texts more.0 c.push_texts.new.texts c.self.inside.rows c.self.invariant more.1

pub returns-in_err-push_texts-clause-err : goal.returns-in_err-push_texts-clause-err
returns-in_err-push_texts-clause-err g c =
    let more = c.push_texts.ensures.more in
    on-err c.from_residual.result
    (rows-kept c.self.inside.texts more.0 c.push_texts.new.texts c.self.inside.rows c.self.invariant more.1 ∙ c.self.view_is)

pub invariant_of-self-2 : goal.invariant_of-self-2
invariant_of-self-2 g c =
    let r = c.self.inside in
    let more = c.push_texts.ensures.more in
    let same = c.in_ok-push_texts.ensures.ok in
    let added = map g.I.Item.CellText.text same.0 in
    let new = c.push_texts.new.texts in
    let count = c.len.result - c.len-start.result in
    let long : count ≡ length added = omega (arith, c.len-start.ensures, c.len.ensures, ap length same.2, length-append r.texts added) in
    on-either c.push.result
    (ranges-added r.texts added new r.rows c.push.new.self c.len-start.result count c.self.invariant same.2 c.len-start.ensures long)
    (λ e. subst (AreRanges (length new)) (sym e) (ranges-kept r.texts more.0 new r.rows c.self.invariant more.1))
    c.push.ensures.ok c.push.ensures.err

pub returns-clause-ok : goal.returns-clause-ok
returns-clause-ok g c =
    let r = c.self.inside in
    let same = c.in_ok-push_texts.ensures.ok in
    let added = map g.I.Item.CellText.text same.0 in
    let new = c.push_texts.new.texts in
    let count = c.len.result - c.len-start.result in
    let long : count ≡ length added = omega (arith, c.len-start.ensures, c.len.ensures, ap length same.2, length-append r.texts added) in
    on_ok_weaker c.push.result
    (λ e. (
      same.0,
      same.1,
      rows-added r.texts added new r.rows c.push.new.self c.len-start.result count c.self.invariant same.2 c.len-start.ensures long e
          ∙ ap (λ cells. with_record cells added) c.self.view_is,
    ))
    c.push.ensures.ok

pub returns-clause-err : goal.returns-clause-err
returns-clause-err g c =
    let r = c.self.inside in
    let more = c.push_texts.ensures.more in
    let new = c.push_texts.new.texts in
    on_err_weaker c.push.result (λ e. ap (rows_in new) e ∙ rows-kept r.texts more.0 new r.rows c.self.invariant more.1 ∙ c.self.view_is) c.push.ensures.err
