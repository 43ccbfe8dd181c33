use Rattle.tabled_pool.proofs.Names.{AreLeft, [], box_of, boxes_left, drop, list_box, map, nodes, nodes_in, ◌*◌, ◌++◌, ◌+◌, ◌∷◌}
use Rattle.tabled_pool.specs.Boxes.{Placing}
use Rattle.tabled_pool.specs.Sizes.{sizes_of_all}
use Rattle.tabled_pool.proofs.Measures.{AreUnplaced}
use Rattle.tabled_pool.proofs.places.+places.Given as goal

abbrev pub invariant-place_list-loop-child : goal.invariant-place_list-loop-child
invariant-place_list-loop-child l =
    let bs = boxes_left l.spacing (drop l.child-index l.front) l.last in
    record {
      placing : Placing (list_box l.boxes.direction l.spacing (map (box_of l.spacing) l.boxes.children.now)) (list_box l.boxes.direction l.spacing bs)
          l.fn.whole.place l.place l.initial.placer.list.pieces.items l.placer.list.pieces.items;
      left : AreLeft l.boxes.direction l.spacing bs l.left;
      sizes : AreUnplaced l.fn.placer.sizes.items (sizes_of_all l.spacing l.boxes.children.now) l.placer.sizes.items
          (sizes_of_all l.spacing (drop l.child-index l.front ++ (l.last ∷ [])));
    }

abbrev pub decreases-place_list : goal.decreases-place_list
decreases-place_list l = 2 * nodes_in l.boxes.children.now + 1

abbrev pub decreases-place_value : goal.decreases-place_value
decreases-place_value l = 2 * nodes l.value.now
