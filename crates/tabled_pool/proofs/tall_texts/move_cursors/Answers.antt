use Rattle.tabled_pool.proofs.Names.{ap, arith, get_or, inl, inr, length, subst, sym, ◌+◌, ◌<◌, ◌∙◌, ◌≡◌}
use Rattle.tabled_line.proofs.Names.{get_or-set_other, get_or-set_same, length-set, slice_set}
use Rattle.std.proofs.lemmas.Bool.{cases_eq}
use Rattle.tabled_pool.proofs.TallCursors.{moved_text}
use Rattle.tabled_pool.specs.TallTexts.{IsTall}
use Rattle.tabled_pool.proofs.tall_texts.move_cursors.Goals as goal

pub texts-preserved : goal.texts-preserved
texts-preserved c =
    let texts = c.texts.texts.items in
    let index = c.texts.index in
    let old = c.texts.invariant in
    let was = c.index_mut.result.now in
    let new = record was { cursor = c.advance.new.self } in
    let inside : index < length texts = omega (arith, old.same, c.texts-test.true) in
    record {
      same = length-set texts index new ∙ old.same;
      moved = λ t y k d all within.
          elim (cases_eq k index) [
            | inl e ↦
                let is : get_or (slice_set texts index new) k d ≡ new =
                ap (λ j. get_or (slice_set texts index new) j d) e ∙ get_or-set_same texts index new d inside in
                let same = sym (old.left index was (omega arith)) ∙ sym c.index_mut.ensures.value in
                let before : IsTall t y was = subst (IsTall t y) same (all index was (omega (arith, inside, old.same))) in
                subst (IsTall t (y + 1)) (sym is) (moved_text t y was c.advance.new.self c.advance.ensures before)
            | inr other ↦
                subst (IsTall t (y + 1)) (sym (get_or-set_other texts index k new d other)) (old.moved t y k d all (omega (arith, within, other)))
          ];
      left = λ k d after.
          let other : (k ≡ index) → ⊥ = λ e. omega (arith, e, after) in
          get_or-set_other texts index k new d other ∙ old.left k d (omega (arith, after));
    }

pub returns : goal.returns
returns c = λ t y all k d within.
    let i = c.texts.invariant in
    i.moved t y k d all (omega (arith, within, i.same, c.texts-test.false))
