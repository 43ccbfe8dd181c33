use Rattle.tabled_base.proofs.Names.{All-set, [], ap, arith, length, length-map, lengthened, set, slice_index_or, texts_of, vec_capacity}
use Rattle.tabled_base.proofs.Names.{◌<◌, ◌∙◌, ◌≡◌, ◌≤◌}
use Rattle.tabled_base.proofs.Lengthening.{mapped, mapped-more, mapped-all}
use Rattle.tabled_base.proofs.RowLemmas.{texts_lengthened}
use Rattle.tabled_base.proofs.builder.lengthen_rows.Goals as goal

pub loop-row-preserved : goal.loop-row-preserved
loop-row-preserved c =
    let n = c.args.columns in
    let i = c.loop-row.row-index in
    let old = texts_of (λ t. t) c.args.rows.now in
    let inside : i < length old = rw length-map (omega arith) in
    let room : n ≤ vec_capacity c.row-item.result = rw (c.row-item.is) (c.loop-row.invariant.roomy i c.row-item.result (omega arith)) in
    record {
      texts =
          texts_lengthened n c.loop-row.rows i c.lengthen_row.new.row c.row-item.result (omega arith) c.lengthen_row.ensures.items
          ∙ ap (λ l. set l i (lengthened n (slice_index_or l i []))) c.loop-row.invariant.texts
          ∙ mapped-more (lengthened n) i old [] inside;
      roomy =
          All-set (λ row. n ≤ vec_capacity row) c.loop-row.rows i c.lengthen_row.new.row (omega (arith, room))
          c.loop-row.invariant.roomy;
    }

pub returns : goal.returns
returns c =
    let old = texts_of (λ t. t) c.args.rows.now in
    let all : c.loop-row.row-index ≡ length old = rw length-map (omega arith) in
    c.loop-row.invariant.texts ∙ ap (λ k. mapped (lengthened c.args.columns) k old) all ∙ mapped-all (lengthened c.args.columns) old
