use Rattle.std.proofs.Common.{List, length, ◌++◌, ◌≡◌, ◌≤◌}
use Rattle.std.specs.List.{AllZip}
use Rattle.serde.specs.Event.{Event}
use Rattle.tabled_serde.specs.Reader.{bytes_of, left}
use Rattle.tabled_serde.specs.Records.{IsText}
use Rattle.tabled_serde.proofs.reader.Reader.read_items.Given as goal

abbrev pub invariant-items : goal.invariant-items
invariant-items l = record {
  none : l.self.none.now ≡ l.fn.self.none.now;
  fewer : length l.self.steps.now ≤ length l.fn.self.steps.now;
  read : (events : List Event) × AllZip (IsText l.fn.self.none.now) events (bytes_of l.items) × (left l.fn.self ≡ events ++ left l.self);
}

abbrev pub decreases-items : goal.decreases-items
decreases-items l = length l.self.steps.now
