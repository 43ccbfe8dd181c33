use Rattle.std.proofs.Common.{None, Some, ap, sym, ◌∙◌}
use Rattle.std.specs.Option.{option_and_then}
use Rattle.tabview_read.specs.Formats.{format_of_name}
use Rattle.tabview_read.proofs.Formats.{last-ending}
use Rattle.tabview_read.proofs.format.Format.of_path.Goals as goal

pub returns-in-Some : goal.returns-in-Some
returns-in-Some c =
    let found = last-ending c.args.path.now (Some (c.in-Some.field-0-0, c.in-Some.ending)) c.in-Some.ensures.cases in
    c.of_name.ensures ∙ ap (option_and_then format_of_name) (sym found)

pub returns-in-None : goal.returns-in-None
returns-in-None c = ap (option_and_then format_of_name) (sym (last-ending c.args.path.now None c.in-None.ensures.cases))
