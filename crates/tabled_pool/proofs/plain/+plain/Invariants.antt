use Rattle.tabled_pool.proofs.Names.{IsPlain, take}
use Rattle.tabled_pool.proofs.TreeTexts.{AllIn}
use Rattle.tabled_pool.proofs.plain.+plain.Given as goal

abbrev pub invariant-are_plain_values-loop-value : goal.invariant-are_plain_values-loop-value
invariant-are_plain_values-loop-value l = AllIn IsPlain (take l.value-index l.values)
