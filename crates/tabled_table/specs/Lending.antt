-- Parts of a table that are borrowed mutably. Afterwards the table has what the reference leaves in
-- that part, and its other parts unchanged.
use Rattle.std.specs.Borrow.{Fml, Lends, MutBor}
use Rattle.tabled_config.specs.declared.colored.ColoredConfig.{ColoredConfig}
use Rattle.tabled_config.specs.contracts.colored.ColoredConfig.{the_row as config_row}
use Rattle.tabled_size.specs.declared.complete_dimension.CompleteDimension.{CompleteDimension}
use Rattle.tabled_size.specs.contracts.complete_dimension.CompleteDimension.{the_row as dimension_row}
use Rattle.tabled_table.specs.declared.table.Table.{Table}
use Rattle.tabled_table.specs.contracts.table.Table.{the_row}
use denote.RattleType.{RattleType}
use Rattle.std.specs.contracts.impls.GlobalAllocator.TheImpl.{ghosts}
use Rattle.std.specs.contracts.alloc.Global as global
use Rattle.std.specs.contracts.string.String as text

abbrev pub LendsConfig : MutBor Table → MutBor ColoredConfig → Fml
LendsConfig lender lent = Lends the_row config_row lender lent (λ config. record lender.now { config = config })

abbrev pub LendsDimension : MutBor Table → MutBor CompleteDimension → Fml
LendsDimension lender lent = Lends the_row dimension_row lender lent (λ sizes. record lender.now { dimension = sizes })

-- ---- the logic's types of a table's parts, for contracts about mutable borrows

abbrev pub string_row : RattleType
string_row = text.the_row global.the_row ghosts
