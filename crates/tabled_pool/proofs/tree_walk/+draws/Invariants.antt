use Rattle.tabled_pool.proofs.Names.{AreLeft, Fits, block_sheet_of, boxes_left, drawer, drop, inheriting_box, list_box, map, nodes, nodes_in, pick, plan_of, ◌*◌, ◌+◌, ◌≡◌}
use Rattle.tabled_pool.specs.Sizes.{measured, sizes_in}
use Rattle.tabled_pool.specs.Inherited.{no_block}
use Rattle.tabled_pool.proofs.Collected.{DrawnSoFar}
use Rattle.tabled_pool.proofs.Drawers.{drawers_left, list_of}
use Rattle.tabled_pool.proofs.Measures.{AreUnplaced, sizes_to_draw}
use Rattle.tabled_pool.proofs.tree_walk.+draws.Given as goal

abbrev pub invariant-draw_list-loop-child : goal.invariant-draw_list-loop-child
invariant-draw_list-loop-child l =
    let t = plan_of l.drawing in
    let g = l.drawing.spacing in
    let d = l.direction in
    let ahead = drop l.child-index l.front in
    let bs = boxes_left g ahead l.last in
    record {
      so_far : DrawnSoFar d (list_of d g (map (drawer t g) l.boxes.children.now) (inheriting_box l.fn.inherited))
          (list_of d g (drawers_left t g ahead l.last) (inheriting_box l.inherited)) (block_sheet_of l.fn.inherited.block)
          (map block_sheet_of l.drawn.blocks.items) l.drawn.sizes.items (block_sheet_of l.drawn.next.block);
      all : block_sheet_of l.inherited.block ≡ pick d no_block (block_sheet_of l.fn.inherited.block);
      fits : Fits (list_box d g bs) l.inherited.place;
      left : AreLeft d g bs l.left;
      sizes : AreUnplaced l.fn.sizes.items (sizes_in (map (measured g) l.boxes.children.now)) l.sizes.items
          (sizes_to_draw g l.front ahead l.last);
    }

abbrev pub decreases-draw_list : goal.decreases-draw_list
decreases-draw_list l = 2 * nodes_in l.boxes.children.now + 1

abbrev pub decreases-draw_value : goal.decreases-draw_value
decreases-draw_value l = 2 * nodes l.value.now
