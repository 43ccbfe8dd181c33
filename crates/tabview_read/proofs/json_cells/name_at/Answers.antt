use Rattle.std.proofs.Common.{◌∙◌}
use Rattle.tabview_read.proofs.Parts.{field_at-get_or, text-at}
use Rattle.tabview_read.proofs.json_cells.name_at.Goals as goal

pub returns : goal.returns
returns c = text-at c.get.result _ c.unwrap_or.result _ (c.get.ensures.value ∙ field_at-get_or _ _ c.requires) c.unwrap_or.ensures
