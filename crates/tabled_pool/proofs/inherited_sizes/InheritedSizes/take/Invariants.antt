use Rattle.tabled_pool.proofs.Names.{length, ◌++◌, ◌-◌, ◌≡◌}
use Rattle.tabled_pool.specs.Inherited.{sizes_left, taken}
use Rattle.tabled_pool.proofs.inherited_sizes.InheritedSizes.take.Given as goal

abbrev pub invariant-sizes : goal.invariant-sizes
invariant-sizes l =
    let t = taken l.left (sizes_left l.self) in
    (record t { part = l.part.sizes.items ++ t.part } ≡ taken l.size (sizes_left l.initial.self)) × (l.part.start ≡ 0)

abbrev pub decreases-sizes : goal.decreases-sizes
decreases-sizes l = length l.self.sizes.items - l.self.start
