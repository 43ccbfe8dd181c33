use Rattle.std.proofs.Common.{◌∙◌, rules, sym}
use Rattle.tabview_cells.proofs.Escapes.{escaped-lossless, escaped-none, escaped-visible}
use Rattle.tabview_cells.proofs.escaping.escape.Goals as goal

pub returns-then-not-needs_escape-clause-ok : goal.returns-then-not-needs_escape-clause-ok
returns-then-not-needs_escape-clause-ok c =
    escaped-none c.args.lines c.args.text.now c.utf8.text (sym c.needs_escape.ensures ∙ c.if-not-needs_escape.true)

pub returns-then-not-needs_escape-clause-lossless : goal.returns-then-not-needs_escape-clause-lossless
returns-then-not-needs_escape-clause-lossless c =
    escaped-lossless c.args.lines c.args.text.now c.args.text.now c.utf8.text
    (escaped-none c.args.lines c.args.text.now c.utf8.text (sym c.needs_escape.ensures ∙ c.if-not-needs_escape.true))

pub returns-then-not-needs_escape-clause-visible : goal.returns-then-not-needs_escape-clause-visible
returns-then-not-needs_escape-clause-visible c =
    escaped-visible c.args.lines c.args.text.now c.args.text.now c.utf8.text
    (escaped-none c.args.lines c.args.text.now c.utf8.text (sym c.needs_escape.ensures ∙ c.if-not-needs_escape.true))

pub returns-clause-lossless : goal.returns-clause-lossless
returns-clause-lossless c =
    escaped-lossless c.args.lines c.args.text.now _ c.utf8.text (search (rules, c.in_ok-escape_into.ensures.ok, c.in_ok-shown.ensures.bytes))

pub returns-clause-visible : goal.returns-clause-visible
returns-clause-visible c =
    escaped-visible c.args.lines c.args.text.now _ c.utf8.text (search (rules, c.in_ok-escape_into.ensures.ok, c.in_ok-shown.ensures.bytes))
