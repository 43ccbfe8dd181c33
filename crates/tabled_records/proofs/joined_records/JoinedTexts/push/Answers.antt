use Rattle.tabled_records.proofs.Names.{IsCharBoundary, IsCharBoundary-at_seam, [], ap, length, string_bytes, subst, sym, texts_from, ◌++◌}
use Rattle.tabled_records.proofs.Names.{◌∙◌, ◌∷◌}
use Rattle.tabled_records.proofs.Joining.{filled-next, texts-added}
use Rattle.tabled_records.proofs.joined_records.JoinedTexts.push.Goals as goal

pub invariant_of-self-in-Ok : goal.invariant_of-self-in-Ok
invariant_of-self-in-Ok c =
    let whole = string_bytes c.self.inside.whole in
    let text = c.args.text.now in
    let places = c.self.inside.ends in
    let columns = c.args.columns in
    let end = ap length (c.as_str-end.ensures.value ∙ c.in_ok-push_str.ensures.bytes) in
    rw (c.in_ok-push_str.ensures.bytes, c.in-Ok.ensures.ok ∙ ap (λ n. places ++ (n, columns) ∷ []) end)
    (filled-next whole text places c.self.inside.lines.items c.push_ends.new.lines.items columns c.utf8.text c.self.invariant
    c.requires.columns c.push_ends.ensures.same (c.in-Ok.ensures.noted ∙ c.requires.lines) c.in-Ok.ensures.few)

pub truncate-requires-in-Err : goal.truncate-requires-in-Err
truncate-requires-in-Err c =
    let bytes = string_bytes c.push_str.new.self in
    let cut = subst (IsCharBoundary bytes) (sym (ap length c.as_str-start.ensures.value))
    (IsCharBoundary-at_seam bytes (string_bytes c.self.inside.whole) c.args.text.now c.in_ok-push_str.ensures.bytes c.utf8.text) in
    λ _. (cut.0, λ _. cut.1)

pub returns-in-Ok-clause-ok : goal.returns-in-Ok-clause-ok
returns-in-Ok-clause-ok c =
    let whole = string_bytes c.self.inside.whole in
    let text = c.args.text.now in
    let places = c.self.inside.ends in
    let columns = c.args.columns in
    let end = ap length (c.as_str-end.ensures.value ∙ c.in_ok-push_str.ensures.bytes) in
    ap (λ bytes. texts_from 0 bytes 0 c.push_ends.new.ends) c.in_ok-push_str.ensures.bytes
    ∙ ap (texts_from 0 (whole ++ text) 0) (c.in-Ok.ensures.ok ∙ ap (λ n. places ++ (n, columns) ∷ []) end)
    ∙ texts-added whole text places c.self.inside.lines.items columns c.self.invariant
    ∙ ap (λ texts. texts ++ text ∷ []) c.self.view_is
