use Rattle.tabled_pool.proofs.Names.{All, arith, subst, sym, ◌+◌, ◌-◌, ◌≡◌}
use Rattle.tabled_pool.specs.TallTexts.{AreTall, IsTall}
use Rattle.tabled_pool.proofs.tall_texts.TallTexts.advance.Goals as goal
use Rattle.tabled_pool.proofs.tall_texts.TallTexts.advance.Goals.{else-y-gt0, then-y-gt0}

pub returns : goal.returns
returns c = λ t all.
    let y = c.args.y in
    elim c.if-y-gt0.branch [
      | then-y-gt0 w ↦
          let next : y - 1 + 1 ≡ y = omega (arith, w.if-y-gt0.true) in
          let moved = w.move_cursors.ensures t (y - 1) (w.remove_ended.ensures t (y - 1) all) in
          subst (AreTall t y) (sym w.self-is) (subst (λ line. All (IsTall t line) w.move_cursors.new.texts.items) next moved)
      | else-y-gt0 w ↦
          let same : y - 1 ≡ y = omega (arith, w.if-y-gt0.false) in
          subst (AreTall t y) (sym w.self-is) (subst (λ line. AreTall t line c.args.self.now) same all)
    ]
