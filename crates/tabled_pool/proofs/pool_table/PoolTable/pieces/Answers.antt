use Rattle.tabled_pool.proofs.Names.{[], plan, spacing_of, sym, ◌∙◌}
use Rattle.tabled_pool.proofs.pool_table.PoolTable.pieces.Goals as goal

pub place_tree-requires-clause-wide : goal.place_tree-requires-clause-wide
place_tree-requires-clause-wide c =
    let box = sym (c.requires.inner.box (spacing_of c.args.self.now)) in
    rw (c.spacing.ensures, box, c.frame_of-frame.ensures, c.get_borders.ensures) c.requires.width

pub place_tree-requires-clause-tall : goal.place_tree-requires-clause-tall
place_tree-requires-clause-tall c =
    let box = sym (c.requires.inner.box (spacing_of c.args.self.now)) in
    rw (c.spacing.ensures, box, c.frame_of-frame.ensures, c.get_borders.ensures) c.requires.height

pub place_tree-requires-clause-sizes : goal.place_tree-requires-clause-sizes
place_tree-requires-clause-sizes c =
    let all = c.in_ok-sizes.ensures in
    rw c.spacing.ensures (record { before = []; same = all.sizes ∙ c.requires.sizes all.complete })

pub returns : goal.returns
unfolding plan
returns c =
    let e = rw (c.requires.width, c.requires.height, c.frame_of-frame.ensures, c.get_borders.ensures, c.spacing.ensures)
    at c.in_ok-place_tree.ensures in
    let whole = rw (sym (c.requires.inner.box (spacing_of c.args.self.now))) at e in
    rw c.new-list.ensures at whole
