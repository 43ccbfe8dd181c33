use Rattle.std.proofs.Common.{◌≡◌, length}
use Rattle.tabview_cells.specs.Dates.{fits_shape}
use Rattle.tabview_cells.proofs.dates.fits_shape.Given as goal

abbrev pub invariant-bytes : goal.invariant-bytes
invariant-bytes l = fits_shape l.bytes l.signs ≡ fits_shape l.text l.shape

abbrev pub decreases-bytes : goal.decreases-bytes
decreases-bytes l = length l.bytes
