use Rattle.tabled_size.proofs.Names.{added_at, added_by, ap, arith, columns, get_or-map-range_with_len, sym, ◌∙◌}
use Rattle.std.specs.List.{slice_index_or}
use Rattle.tabled_size.specs.Added.{nothing}
use Rattle.tabled_size.proofs.estimate.measure_known.Goals as goal

pub measure_row-requires-in-Unlike-Some-clause-known : goal.measure_row-requires-in-Unlike-Some-clause-known
measure_row-requires-in-Unlike-Some-clause-known g c = record {
  at = λ column inside.
      let count = columns (g.R.ExactRecords.cells c.args.records.now) in
      let known = rw c.in-Unlike-Some.is at c.requires.known.is in
      let some = rw c.in-Unlike-Some.is at c.in-Unlike-Some.field-0-is in
      let listed = rw some at known in
      ap (λ extents. slice_index_or extents column nothing) (c.as_slice.ensures.value ∙ listed.extents)
      ∙ get_or-map-range_with_len (added_at c.args.config.now c.in-Unlike-Some.listed.reference) 0 count column column nothing inside (omega arith)
      ∙ ap added_by (sym (c.is_padded_in.ensures count listed c.if-is_padded_in.true column));
}
