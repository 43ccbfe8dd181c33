use Rattle.tabled_table.proofs.Names.{ChangesEach, List, [], arith, refl, subst, take_more, ◌++◌, ◌∷◌}
use Rattle.tabled_base.specs.declared.position.Entity.{Entity}
use Rattle.tabled_base.specs.declared.position.Entity.TheVariants.{Global}
use Rattle.tabled_config.specs.declared.colored.ColoredConfig.{ColoredConfig}
use Rattle.tabled_table.specs.Applied.{CellChange, Cells}
use Rattle.tabled_table.proofs.applying.change_parts.Goals as goal

-- one entity more
each_more : (changes : CellChange) (es : List Entity)
    (e : Entity) (a : Cells) (b : ColoredConfig) (c : Cells) (d : ColoredConfig) (m : Cells) (n : ColoredConfig)
    → ChangesEach changes es a b c d → changes c d e m n → ChangesEach changes (es ++ e ∷ []) a b m n
each_more changes [] e a b c d m n h k =
    (m, n, subst (λ x. changes x b e m n) h.0 (subst (λ y. changes c y e m n) h.1 k), (refl, refl))
each_more changes (x ∷ es) e a b c d m n h k = (h.0, h.1, h.2, each_more changes es e h.0 h.1 c d m n h.3 k)

pub loop-entity-preserved : goal.loop-entity-preserved
loop-entity-preserved g c =
    rw (take_more c.args.entities.now c.loop-entity.entity-index Global (omega arith))
    (each_more _ _ _ _ _ _ _ _ _ c.loop-entity.invariant c.in_ok-change_part.ensures.ok)
