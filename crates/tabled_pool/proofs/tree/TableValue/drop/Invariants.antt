use Rattle.tabled_pool.proofs.Names.{nodes_in}
use Rattle.tabled_pool.proofs.tree.TableValue.drop.Given as goal

abbrev pub decreases-values : goal.decreases-values
decreases-values l = nodes_in l.rest.items
