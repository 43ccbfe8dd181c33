use Rattle.tabled_extended.proofs.Names.{[], append_assoc, arith, fill, finished, further, nat_tests, refl, rule_behind, stopped, sym, ℕ}
use Rattle.tabled_extended.proofs.Names.{◌++◌, ◌+◌, ◌-◌, ◌<◌, ◌∙◌, ◌∷◌, ◌≡◌}
use Rattle.tabled_extended.proofs.printing.write_title_rule.Goals as goal

-- the title doesn't reach the cross
crossed : (f v columns : ℕ) → columns < f + 3 + v → columns < f + 2
    → rule_behind f v columns ≡ fill 45 (f + 1 - columns) ++ (43 ∷ fill 45 (v + 1))
crossed f v columns h k = grind (arith, nat_tests)

pub returns-in_err-write_text : goal.returns-in_err-write_text
returns-in_err-write_text g c =
    let w = c.args.widths in
    stopped _ _ (fill 45 (w.value + 1)) c.in_ok-write_fill.ensures c.in_err-write_text.ensures.written c.from_residual-in_err-write_text.ensures.1
    (crossed w.field w.value c.args.columns (omega (arith, c.if-columns-whole.false)) (omega (arith, c.if-columns-widths.false)))

pub returns : goal.returns
returns g c =
    let w = c.args.widths in
    finished _ _ _ _ (further c.in_ok-write_fill.ensures c.in_ok-write_text.ensures.written refl) c.write_fill-3.ensures
    (crossed w.field w.value c.args.columns (omega (arith, c.if-columns-whole.false)) (omega (arith, c.if-columns-widths.false))
    ∙ sym (append_assoc (fill 45 (w.field + 1 - c.args.columns)) (43 ∷ []) (fill 45 (w.value + 1))))
