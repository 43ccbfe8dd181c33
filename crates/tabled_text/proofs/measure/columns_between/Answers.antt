use Rattle.tabled_text.proofs.Names.{IsCharBoundary, List, arith, get_or, get_or-take, length, length-take-le, subst, sym, take, ℕ, ◌≡◌}
use Rattle.tabled_text.proofs.Names.{◌≤◌}
use Rattle.tabled_text.proofs.measure.columns_between.Goals as goal

in-front : (text : List ℕ) (start end : ℕ) → start ≤ end → end ≤ length text → IsCharBoundary text start
    → IsCharBoundary (take end text) start
in-front text start end o e b =
    let long = length-take-le end text e in (
      omega arith,
      λ l high. let same : get_or (take end text) start 0 ≡ get_or text start 0 = get_or-take end text start 0 (omega arith) in
          omega (arith, b.1 (omega arith) (omega arith)),
    )

pub tail_width-requires : goal.tail_width-requires
tail_width-requires c =
    subst (λ l. IsCharBoundary l c.args.start) (sym c.split_at.ensures.front)
    (in-front c.args.text.now c.args.start c.args.end c.requires.ordered c.requires.ends.0 c.requires.begins)
