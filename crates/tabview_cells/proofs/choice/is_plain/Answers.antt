use Rattle.std.proofs.Common.{ap, sym, ◌∙◌}
use Rattle.tabled_base.specs.Printable.{is_printable}
use Rattle.tabview_cells.proofs.choice.is_plain.Goals as goal

pub returns-then-known : goal.returns-then-known
returns-then-known c = sym (c.requires c.if-known.true)

pub returns : goal.returns
returns c = c.is_printable.ensures ∙ ap is_printable c.as_bytes.ensures.value
