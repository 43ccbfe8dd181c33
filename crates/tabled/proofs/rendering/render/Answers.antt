use Rattle.tabled.proofs.Names.{true, AreTexts, Cells, IsRectangular, IsRendered, IsRenderedOf, Plan, Result, Sent, SpannedConfig, Streamed}
use Rattle.tabled.proofs.Names.{TableError, estimated, measured, new_config, subst, sym, text_rows, ◌≡◌}
use Rattle.tabled.proofs.PlainTexts.{rendered_measured}
use Rattle.tabled.proofs.RenderedTables.{only_rendered, rendered_new}
use Rattle.tabled.proofs.Outputs.{text_rectangular, texts_of_text}
use Rattle.std.specs.List.{list_all}
use Rattle.tabled_text.specs.Letters.{is_letter_or_break}
use Rattle.tabled.proofs.rendering.render.Goals.{in_default-via-in-Streamed+else-not-is_letter_text, in_default-via-in_default}
use Rattle.tabled.proofs.rendering.render.Goals as goal

pub print_measured-requires-clause-texts : goal.print_measured-requires-clause-texts
print_measured-requires-clause-texts g c = subst AreTexts (sym c.in_ok-rows.ensures.ok) (texts_of_text c.args.text.now c.utf8.text)

pub print_measured-requires-clause-rectangular : goal.print_measured-requires-clause-rectangular
print_measured-requires-clause-rectangular g c = subst IsRectangular (sym c.in_ok-rows.ensures.ok) (text_rectangular c.args.text.now)

pub print_streamed-requires-clause-texts : goal.print_streamed-requires-clause-texts
print_streamed-requires-clause-texts g c = subst AreTexts (sym c.in_ok-rows.ensures.ok) (texts_of_text c.args.text.now c.utf8.text)

pub print_streamed-requires-clause-rectangular : goal.print_streamed-requires-clause-rectangular
print_streamed-requires-clause-rectangular g c = subst IsRectangular (sym c.in_ok-rows.ensures.ok) (text_rectangular c.args.text.now)

-- what is printed of equal cells, with equal settings
printed_as : {T : Type 0} (plan : Plan) (rows cells : Cells) (config : SpannedConfig) (old : Sent) (r : Result T TableError) (new : Sent)
    → rows ≡ cells → config ≡ new_config → IsRenderedOf plan (estimated rows config) old r new
    → IsRenderedOf plan (estimated cells new_config) old r new
printed_as plan rows cells config old r new e f h =
    subst (λ (d : SpannedConfig). IsRenderedOf plan (estimated cells d) old r new) f
    (subst (λ (k : Cells). IsRenderedOf plan (estimated k config) old r new) e h)

pub returns-in-Streamed-clause-rendered : goal.returns-in-Streamed-clause-rendered
returns-in-Streamed-clause-rendered g c =
    let cells = text_rows c.args.text.now in
    let r = c.print_streamed.result in
    let old = g.S.TextSink.sent c.args.sink.now in
    let new = g.S.TextSink.sent c.print_streamed.new.sink in
    subst (λ (p : Plan). IsRendered p cells old r new) (sym c.in-Streamed.is)
    (rendered_new Streamed cells old r new
    (printed_as Streamed c.in_ok-rows.rows cells _ old r new c.in_ok-rows.ensures.ok c.new_config-config.ensures c.print_streamed.ensures))

pub returns-in-Streamed-clause-only : goal.returns-in-Streamed-clause-only
returns-in-Streamed-clause-only g c =
    only_rendered c.args.plan (text_rows c.args.text.now) _ c.print_streamed.result _ (returns-in-Streamed-clause-rendered g c)

pub returns-clause-rendered : goal.returns-clause-rendered
returns-clause-rendered g c =
    let text = c.args.text.now in
    let r = c.print_measured.result in
    let plain : c.args.plan ≡ Streamed → list_all is_letter_or_break text ≡ true = elim c.in_default.branch [
      | in_default-via-in-Streamed+else-not-is_letter_text w ↦ λ e. sym w.if-not-is_letter_text.ensures
      | in_default-via-in_default w ↦ λ e. absurd (w.in_default.not-Streamed e)
    ] in
    rendered_measured text (texts_of_text text c.utf8.text) c.args.plan plain _ r _
    (printed_as (measured c.args.plan) c.in_ok-rows.rows (text_rows text) c.new_config-config.result _ r _ c.in_ok-rows.ensures.ok
    c.new_config-config.ensures c.print_measured.ensures)

pub returns-clause-only : goal.returns-clause-only
returns-clause-only g c =
    only_rendered c.args.plan (text_rows c.args.text.now) _ c.print_measured.result _ (returns-clause-rendered g c)
