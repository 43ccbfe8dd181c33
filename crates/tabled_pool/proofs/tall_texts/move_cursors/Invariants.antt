use Rattle.tabled_pool.proofs.Names.{All, DrawingPlan, get_or, length, ℕ, ◌+◌, ◌<◌, ◌≡◌, ◌≤◌}
use Rattle.tabled_pool.specs.TallTexts.{IsTall}
use Rattle.tabled_pool.specs.declared.tall_texts.TallText.{TallText}
use Rattle.tabled_pool.proofs.tall_texts.move_cursors.Given as goal

abbrev pub invariant-texts : goal.invariant-texts
invariant-texts l =
    record {
      same : length l.texts.items ≡ length l.initial.texts.items;
      moved : (t : DrawingPlan) (y k : ℕ) (d : TallText) → All (IsTall t y) l.initial.texts.items → k < l.index
          → IsTall t (y + 1) (get_or l.texts.items k d);
      left : (k : ℕ) (d : TallText) → l.index ≤ k → get_or l.texts.items k d ≡ get_or l.initial.texts.items k d;
    }
