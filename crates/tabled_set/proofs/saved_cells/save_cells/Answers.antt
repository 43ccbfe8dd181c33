use Rattle.tabled_set.proofs.Names.{arith}
use Rattle.tabled_set.specs.PutBack.{is_saved}
use Rattle.tabled_set.proofs.PuttingBack.{rows-more}
use Rattle.tabled_set.proofs.saved_cells.save_cells.Goals as goal

pub rows-preserved : goal.rows-preserved
rows-preserved c =
    let bands = c.lines_of_entity.result in
    record {
      copies = c.in_ok-save_row.ensures.texts;
      saved = λ r k.
          rows-more (is_saved c.rows.saved.items r k) (is_saved c.save_row.new.saved.items r k) c.args.entity c.args.records.now bands.0 bands.1 c.rows.row r k
          c.lines_of_entity.ensures.cells (omega arith) (omega arith) c.lines_of_entity.ensures.lines c.lines_of_entity.ensures.places
          (c.rows.invariant.saved r k) (c.in_ok-save_row.ensures.cells r k);
    }
