-- The sizes that are left after a hint removed some.
use Rattle.std.specs.Prelude.{◌≡◌, Option}
use Rattle.tabled_base.specs.declared.position.Entity.{Entity}
use Rattle.tabled_size.specs.Entries.{clears_heights, clears_widths, unless_cleared}
use Rattle.tabled_size.specs.Stored.{heights_of, widths_of}
use Rattle.tabled_size.specs.declared.complete_dimension.CompleteDimension.{CompleteDimension}

-- the old sizes without what a hint clears
pub record AreCleared (hint : Option Entity) (old new : CompleteDimension) : Type 0 where
  pub widths : widths_of new ≡ unless_cleared (clears_widths hint) (widths_of old)
  pub heights : heights_of new ≡ unless_cleared (clears_heights hint) (heights_of old)
