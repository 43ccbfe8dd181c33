-- Where each batch of rows begins.
use Rattle.std.specs.Prelude.{ℕ, ◌+◌, ◌-◌, ◌*◌, ◌/◌, ◌==◌, ◌&&◌, List, [], ◌∷◌, Option, Some, None, if◌then◌else◌, nat_lt, suc, zero}
use Rattle.tabled_table.specs.declared.making.LayoutIterator.{LayoutIterator}

-- the number of batches from one number to another, the last one maybe incomplete; 0 for batches of
-- no row
unfoldable pub batch_count : ℕ → ℕ → ℕ → ℕ
batch_count from to batch = if batch == 0 then 0 else ((to - from) + (batch - 1)) / batch

-- `count` numbers, the first one given and each a step above the one before
abbrev pub progression : ℕ → ℕ → ℕ → List ℕ
progression first step zero = []
progression first step (suc count) = first ∷ progression (first + step) step count

-- the beginnings that are left
abbrev pub batches_left : LayoutIterator → List ℕ
batches_left b = progression b.offset b.batch (batch_count (b.from + b.offset) b.to b.batch)

-- item k of the list of all beginnings: k batches, if batch k begins before the end
abbrev pub batch_at : ℕ → ℕ → ℕ → ℕ → Option ℕ
batch_at from to batch k = if nat_lt 0 batch && nat_lt (from + k * batch) to then Some (k * batch) else None
