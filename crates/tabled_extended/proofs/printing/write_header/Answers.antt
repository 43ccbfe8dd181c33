use Rattle.tabled_extended.proofs.Names.{[], ap, append_assoc, finished, further, one-line, one-line-stopped, refl, rule_behind, stopped}
use Rattle.tabled_extended.proofs.Names.{stopped-first, sym, text_columns, title, ◌++◌, ◌∙◌, ◌∷◌}
use Rattle.tabled_extended.proofs.Dashed.{rule_behind-least}
use Rattle.tabled_extended.proofs.printing.write_header.Goals as goal

pub returns-in_err-write_break : goal.returns-in_err-write_break
returns-in_err-write_break g c = one-line-stopped _ _ _ _ _ c.in_err-write_break.ensures.printed c.from_residual.ensures.1

pub returns-in_err-write_text : goal.returns-in_err-write_text
returns-in_err-write_text g c =
    one-line _ _ _ _ _ c.in_ok-write_break.ensures.printed
    (stopped-first _ _ _ c.in_err-write_text.ensures.written c.from_residual-in_err-write_text.ensures.1 refl) c.write_break.ensures.after

pub returns-in_err-write_text-2 : goal.returns-in_err-write_text-2
returns-in_err-write_text-2 g c =
    let w = c.args.widths in
    let rule = rule_behind w.field w.value (text_columns (title c.args.label.now)) in
    one-line _ _ _ _ _ c.in_ok-write_break.ensures.printed
    (stopped _ _ (45 ∷ rule) c.in_ok-write_text.ensures.written c.in_err-write_text-2.ensures.written
    c.from_residual-in_err-write_text-2.ensures.1 (ap (λ u. 45 ∷ u) (append_assoc c.args.label.now (45 ∷ []) rule)))
    c.write_break.ensures.after

pub returns-in_err-write_text-3 : goal.returns-in_err-write_text-3
returns-in_err-write_text-3 g c =
    let w = c.args.widths in
    let rule = rule_behind w.field w.value (text_columns (title c.args.label.now)) in
    one-line _ _ _ _ _ c.in_ok-write_break.ensures.printed
    (stopped _ _ rule (further c.in_ok-write_text.ensures.written c.in_ok-write_text-2.ensures.written refl)
    c.in_err-write_text-3.ensures.written c.from_residual-in_err-write_text-3.ensures.1
    (ap (λ u. 45 ∷ u) (append_assoc c.args.label.now (45 ∷ []) rule))) c.write_break.ensures.after

pub returns : goal.returns
returns g c =
    let w = c.args.widths in
    let above = title c.args.label.now in
    let columns = ap (rule_behind w.field w.value) c.title_width.ensures
    ∙ rule_behind-least w.field w.value (text_columns above) w.in_range in
    let before = further c.in_ok-write_text.ensures.written c.in_ok-write_text-2.ensures.written refl in
    one-line _ _ _ _ _ c.in_ok-write_break.ensures.printed
    (finished _ _ _ _ (further before c.in_ok-write_text-3.ensures.written refl) c.write_title_rule.ensures
    (ap (λ rule. above ++ rule) (sym columns))) c.write_break.ensures.after
