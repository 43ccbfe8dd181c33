use Rattle.tabled_pool.proofs.Names.{arith, subst, ◌+◌, ◌-◌, ◌≡◌}
use Rattle.tabled_priority.specs.Sums.{one_if}
use Rattle.tabled_pool.specs.Inherited.{IsInText, is_top}
use Rattle.tabled_pool.proofs.bordered_text.BorderedText.move_cursor.Goals as goal

pub returns-then-y-top : goal.returns-then-y-top
returns-then-y-top c = λ at.
    let s = c.args.self.now in
    let top = one_if (is_top s.own) in
    let next : c.args.y - top + 1 ≡ c.args.y + 1 - top = omega (arith, c.top.ensures, c.if-y-top.true) in
    subst (λ row. IsInText s row c.advance.new.self) next (c.advance.ensures _ _ _ at.ahead)

pub returns-else-y-top : goal.returns-else-y-top
returns-else-y-top c = λ at.
    let s = c.args.self.now in
    let top = one_if (is_top s.own) in
    let same : c.args.y - top ≡ c.args.y + 1 - top = omega (arith, c.top.ensures, c.if-y-top.false) in
    subst (λ row. IsInText s row c.args.cursor.now) same at
