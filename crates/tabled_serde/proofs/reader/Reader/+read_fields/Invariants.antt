use Rattle.std.proofs.Common.{length, ◌≡◌, ◌≤◌}
use Rattle.tabled_serde.specs.Reader.{FieldsRead, left}
use Rattle.tabled_serde.proofs.reader.Reader.+read_fields.Given as goal

abbrev pub decreases-read_fields : goal.decreases-read_fields
decreases-read_fields l = length l.self.now.steps.now

abbrev pub invariant-fields : goal.invariant-fields
invariant-fields l = record {
  none : l.self.none.now ≡ l.fn.self.none.now;
  fewer : length l.self.steps.now ≤ length l.fn.self.steps.now;
  read : FieldsRead l.fn.self.none.now (left l.fn.self) (left l.self) l.fn.fields l.fields;
}

abbrev pub decreases-fields : goal.decreases-fields
decreases-fields l = length l.self.steps.now
