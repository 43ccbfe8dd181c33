use Rattle.tabled_extended.proofs.Names.{List, ap, append_assoc, fill, finished, further, one-line, one-line-stopped, refl, stopped}
use Rattle.tabled_extended.proofs.Names.{stopped-first, sym, text_columns, value_line, ℕ, ◌++◌, ◌-◌, ◌∙◌, ◌≡◌}
use Rattle.std.specs.Prelude.{codes}
use Rattle.tabled_extended.proofs.printing.write_value_line.Goals as goal

-- the line, by the text of the field and the number of spaces
line : (columns : ℕ) {spaces : ℕ} {field text : List ℕ} (value : List ℕ) → text ≡ field → spaces ≡ columns - text_columns field
    → value_line columns (field, value) ≡ text ++ (fill 32 spaces ++ (codes " | " ++ value))
line columns {spaces} {field} {text} value same many =
    ap (λ t. t ++ (fill 32 (columns - text_columns field) ++ (codes " | " ++ value))) (sym same)
    ∙ ap (λ n. text ++ (fill 32 n ++ (codes " | " ++ value))) (sym many)

pub returns-in_err-write_break : goal.returns-in_err-write_break
returns-in_err-write_break g c = one-line-stopped _ _ _ _ _ c.in_err-write_break.ensures.printed c.from_residual.ensures.1

pub returns-in_err-write_text : goal.returns-in_err-write_text
returns-in_err-write_text g c =
    let many = c.saturating_sub-spaces.ensures ∙ ap (λ n. c.args.columns - n) c.width.ensures in
    one-line _ _ _ _ _ c.in_ok-write_break.ensures.printed
    (stopped-first _ _ _ c.in_err-write_text.ensures.written c.from_residual-in_err-write_text.ensures.1
    (line c.args.columns c.args.value.now c.text.ensures many)) c.write_break.ensures.after

pub returns-in_err-write_fill : goal.returns-in_err-write_fill
returns-in_err-write_fill g c =
    let many = c.saturating_sub-spaces.ensures ∙ ap (λ n. c.args.columns - n) c.width.ensures in
    one-line _ _ _ _ _ c.in_ok-write_break.ensures.printed
    (stopped _ _ (codes " | " ++ c.args.value.now) c.in_ok-write_text.ensures.written c.in_err-write_fill.ensures
    c.from_residual-in_err-write_fill.ensures.1 (line c.args.columns c.args.value.now c.text.ensures many)) c.write_break.ensures.after

pub returns-in_err-write_text-2 : goal.returns-in_err-write_text-2
returns-in_err-write_text-2 g c =
    let value = c.args.value.now in
    let spaces = c.saturating_sub-spaces.result in
    let many = c.saturating_sub-spaces.ensures ∙ ap (λ n. c.args.columns - n) c.width.ensures in
    one-line _ _ _ _ _ c.in_ok-write_break.ensures.printed
    (stopped _ _ value (further c.in_ok-write_text.ensures.written c.in_ok-write_fill.ensures refl) c.in_err-write_text-2.ensures.written
    c.from_residual-in_err-write_text-2.ensures.1
    (line c.args.columns value c.text.ensures many
    ∙ sym (append_assoc c.text.result.now (fill 32 spaces) (codes " | " ++ value)))) c.write_break.ensures.after

pub returns : goal.returns
returns g c =
    let text = c.text.result.now in
    let value = c.args.value.now in
    let spaces = c.saturating_sub-spaces.result in
    let many = c.saturating_sub-spaces.ensures ∙ ap (λ n. c.args.columns - n) c.width.ensures in
    one-line _ _ _ _ _ c.in_ok-write_break.ensures.printed
    (finished _ _ _ _ (further (further c.in_ok-write_text.ensures.written c.in_ok-write_fill.ensures refl) c.in_ok-write_text-2.ensures.written refl)
    c.write_text-3.ensures.written
    (line c.args.columns value c.text.ensures many
    ∙ sym (append_assoc text (fill 32 spaces) (codes " | " ++ value))
    ∙ sym (append_assoc (text ++ fill 32 spaces) (codes " | ") value)
    ∙ ap (λ t. ((text ++ fill 32 spaces) ++ codes " | ") ++ t) (sym c.text-2.ensures))) c.write_break.ensures.after
