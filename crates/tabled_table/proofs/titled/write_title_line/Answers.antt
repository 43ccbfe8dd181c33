use Rattle.tabled_table.proofs.Names.{ap, ◌++◌, ◌∷◌, []}
use Rattle.tabled_line.proofs.Sending.{finished, stopped-first}
use Rattle.tabled_table.proofs.Titles.{bare-line}
use Rattle.tabled_table.proofs.titled.write_title_line.Goals as goal

pub returns-in_err-write_padded_text : goal.returns-in_err-write_padded_text
returns-in_err-write_padded_text g c =
    stopped-first _ _ (10 ∷ []) c.in_err-write_padded_text.ensures c.from_residual.ensures.1
    (ap (λ text. text ++ 10 ∷ [])
    (bare-line c.args.alignment c.args.width c.args.line.now _ _ _ _ _ _ c.zero.ensures c.filled-padding.ensures c.line_width.ensures.value
    c.saturating_sub-free.ensures c.before_text-before.ensures c.saturating_sub-behind.ensures))

pub returns : goal.returns
returns g c =
    finished _ _ _ _ c.in_ok-write_padded_text.ensures c.write_text.ensures.written
    (ap (λ text. text ++ 10 ∷ [])
    (bare-line c.args.alignment c.args.width c.args.line.now _ _ _ _ _ _ c.zero.ensures c.filled-padding.ensures c.line_width.ensures.value
    c.saturating_sub-free.ensures c.before_text-before.ensures c.saturating_sub-behind.ensures))
