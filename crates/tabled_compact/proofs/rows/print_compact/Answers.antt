use Rattle.tabled_compact.proofs.Sources.{may-give, prints-source}
use Rattle.tabled_compact.proofs.rows.print_compact.Goals as goal

pub print_rows-requires : goal.print_rows-requires
print_rows-requires g c = may-give (c.iter_rows.ensures.ends c.requires) c.into_iter-rows.ensures.into_iter_gives

pub returns : goal.returns
returns g c = prints-source c.iter_rows.ensures.begins c.into_iter-rows.ensures.into_iter_gives _ _ _ _ _ _ c.print_rows.result c.print_rows.ensures
