use Rattle.std.specs.declared.alloc.Global.{Global}
use Rattle.std.specs.declared.string.String.{String}
use Rattle.std.specs.declared.vec.Vec.{Vec}
use Rattle.std.proofs.Common.{[], ap, arith, map, refl, string_bytes, take, ◌∙◌, ◌∷◌, ◌≡◌}
use Rattle.std.proofs.lemmas.List.{take_all}
use Rattle.tabled_serde.proofs.Placing.{all-placed, cell-placed, empty-placed, first-unplaced, none-placed, one-longer}
use Rattle.tabled_serde.proofs.placed.cells_below.Goals as goal
use Rattle.tabled_serde.proofs.placed.cells_below.Goals.{in-Some+in_ok-push-in-Some, in-None+in_ok-push-in-None}

pub columns-init : goal.columns-init
columns-init c =
    none-placed [] c.args.fields c.new-row.result (record { names = c.as_slice.result; cells = c.into_iter.result }) refl c.new-row.ensures.items
    c.as_slice.ensures.value c.into_iter.ensures.rest

pub columns-preserved : goal.columns-preserved
columns-preserved c =
    let longer = one-longer c.args.header.now c.columns.name-index c.name-item.result (omega arith) c.name-item.is in
    elim c.match-take.branch [
      | in-Some+in_ok-push-in-Some w ↦ cell-placed c.name-item.result w.in-Some.cell c.columns.invariant longer
          (rw w.in-Some.is at c.take.ensures.names) (rw w.in-Some.is at c.take.ensures.cells)
          (ap (λ (r : Vec (String Global) Global). r.items) w.row-is ∙ w.in_ok-push-in-Some.ensures.items)
      | in-None+in_ok-push-in-None w ↦ empty-placed c.name-item.result w.new.result c.columns.invariant longer c.requires
          (rw w.in-None.is at c.take.ensures.other)
          (rw w.in-None.is at c.take.ensures.names) (rw w.in-None.is at c.take.ensures.cells) w.new.ensures.bytes
          (ap (λ (r : Vec (String Global) Global). r.items) w.row-is ∙ w.in_ok-push-in-None.ensures.items)
    ]

pub returns-clause-ok : goal.returns-clause-ok
returns-clause-ok c =
    all-placed (map string_bytes (take c.columns.name-index c.args.header.now)) (map string_bytes c.args.header.now) c.args.fields c.columns.row
    c.columns.unplaced c.columns.invariant (ap (map string_bytes) (take_all c.columns.name-index c.args.header.now (omega arith)))
    c.requires c.in-None-split_first.ensures.cases

pub returns-in-Some-split_first-clause-failed : goal.returns-in-Some-split_first-clause-failed
returns-in-Some-split_first-clause-failed c =
    let name = c.in-Some-split_first.name.now in
    let others = c.in-Some-split_first.field-0-1.now in
    let left : c.columns.unplaced.names.now ≡ name ∷ others = cc (c.in-Some-split_first.ensures.cases.0) in
    first-unplaced (map string_bytes (take c.columns.name-index c.args.header.now)) (map string_bytes c.args.header.now) c.args.fields c.columns.row
    c.columns.unplaced c.columns.invariant (ap (map string_bytes) (take_all c.columns.name-index c.args.header.now (omega arith))) name others
    c.in_ok-clone-in-Some-split_first.field-0 left c.in_ok-clone-in-Some-split_first.ensures.cases
