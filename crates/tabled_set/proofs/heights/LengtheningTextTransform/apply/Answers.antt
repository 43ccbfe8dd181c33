use Rattle.tabled_set.proofs.Names.{ap, encode_utf8_all, on_ok_weaker, replicate, ℕ, ◌++◌, ◌-◌, ◌∙◌}
use Rattle.tabled_set.proofs.JoinedLines.{copied_feeds}
use Rattle.tabled_set.proofs.heights.LengtheningTextTransform.apply.Goals as goal

pub returns : goal.returns
returns c =
    let feeds : ℕ = c.saturating_sub-wanting.result in
    on_ok_weaker c.push_copies.result
    (λ h. h
    ∙ ap (λ bytes. bytes ++ encode_utf8_all (replicate feeds 10)) (c.in_ok-push_str.ensures.bytes ∙ ap (λ bytes. bytes ++ c.args.text.now) c.clear.ensures.bytes)
    ∙ ap (λ bytes. c.args.text.now ++ bytes) (copied_feeds feeds ∙ ap (λ n. replicate n 10) (c.saturating_sub-wanting.ensures ∙ ap (λ n. c.args.content_size - n) c.count_lines.ensures)))
    c.push_copies.ensures
