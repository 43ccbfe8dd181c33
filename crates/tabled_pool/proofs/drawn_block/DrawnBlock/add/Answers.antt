use Rattle.tabled_pool.proofs.Names.{[], ap, arith, block_sheet_of, fill, length, length-map, map, max, nat_tests, string_bytes, sym, ◌∙◌, ◌≡◌}
use Rattle.std.proofs.lemmas.List.{get_or-map}
use Rattle.tabled_pool.specs.Inherited.{beside, no_block}
use Rattle.tabled_pool.specs.declared.drawn_block.DrawnBlock.{DrawnBlock}
use Rattle.tabled_pool.proofs.Besides.{added_there, below, beside_nothing, line_added, none_of, whole_added}
use Rattle.tabled_pool.proofs.Splits.{when_ok}
use Rattle.tabled_pool.proofs.drawn_block.DrawnBlock.add.Goals as goal
use Rattle.tabled_pool.proofs.drawn_block.DrawnBlock.add.Goals.{then-y-len+in_ok-add_str, else-y-len+in_ok-add_spaces}

pub returns-then-is_empty : goal.returns-then-is_empty
returns-then-is_empty c =
    let q = block_sheet_of c.args.other in
    let count : length c.args.self.now.lines.items ≡ 0 = grind (arith, nat_tests, c.as_slice.ensures, c.is_empty.ensures, c.if-is_empty.true) in
    let none : c.args.self.now.lines.items ≡ [] = none_of c.args.self.now.lines.items count in
    let nothing : block_sheet_of c.args.self.now ≡ no_block =
    ap (λ k. record { width = k; lines = map string_bytes c.args.self.now.lines.items }) c.if-self-eq0.true
    ∙ ap (λ ls. record { width = 0; lines = map string_bytes ls }) none in
    sym (ap (λ b. beside b q) nothing ∙ beside_nothing q)

pub add_str-requires : goal.add_str-requires
add_str-requires c =
    added_there (block_sheet_of c.args.self.now) (block_sheet_of c.args.other) c.loop-y.y c.loop-y.self c.begin_line.new.self c.loop-y.invariant
    c.in_ok-begin_line.ensures.lines

pub add_spaces-requires : goal.add_spaces-requires
add_spaces-requires c =
    added_there (block_sheet_of c.args.self.now) (block_sheet_of c.args.other) c.loop-y.y c.loop-y.self c.begin_line.new.self c.loop-y.invariant
    c.in_ok-begin_line.ensures.lines

pub loop-y-preserved : goal.loop-y-preserved
loop-y-preserved c =
    let q = block_sheet_of c.args.other in
    let p = block_sheet_of c.args.self.now in
    let y = c.loop-y.y in
    elim c.if-y-len.branch [
      | then-y-len+in_ok-add_str w ↦ line_added p q y c.loop-y.self c.begin_line.new.self c.if-y-len.self _ c.loop-y.invariant
          c.begin_line.ensures.width c.in_ok-begin_line.ensures.lines (ap (λ (b : DrawnBlock). b.width) w.self-is ∙ w.add_str.ensures.width)
          (ap (λ (b : DrawnBlock). map string_bytes b.lines.items) w.self-is ∙ w.in_ok-add_str.ensures.lines)
          (w.as_str.ensures.value ∙ ap string_bytes w.index.ensures ∙ sym (get_or-map string_bytes c.args.other.lines.items y w.index.result.now
          (fill 32 c.args.other.width) (omega (arith, w.if-y-len.true, c.len-in-loop-y.ensures))))
      | else-y-len+in_ok-add_spaces w ↦ line_added p q y c.loop-y.self c.begin_line.new.self c.if-y-len.self _ c.loop-y.invariant
          c.begin_line.ensures.width c.in_ok-begin_line.ensures.lines (ap (λ (b : DrawnBlock). b.width) w.self-is ∙ w.add_spaces.ensures.width)
          (ap (λ (b : DrawnBlock). map string_bytes b.lines.items) w.self-is ∙ w.in_ok-add_spaces.ensures.lines)
          (sym (below q y (omega (arith, w.if-y-len.false, c.len-in-loop-y.ensures, length-map c.args.other.lines.items string_bytes))))
    ]

pub returns : goal.returns
returns c =
    let q = block_sheet_of c.args.other in
    let p = block_sheet_of c.args.self.now in
    let all : c.loop-y.y ≡ max (length q.lines) (length p.lines) = omega (
      arith,
      c.loop-y-test.false,
      c.loop-y.auto.y-end,
      c.max-y-end.ensures,
      c.len.ensures,
      c.len-2.ensures,
      length-map c.args.other.lines.items string_bytes,
      length-map c.args.self.now.lines.items string_bytes,
    ) in
    when_ok c.widen.result (λ e. whole_added p q c.loop-y.self c.widen.new.self c.loop-y.y all c.loop-y.invariant e.1 e.0) c.widen.ensures
