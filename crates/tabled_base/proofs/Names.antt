-- The names of the crates below, and of the definitions of this one, that its proofs use. Declares
-- nothing.
pub use Rattle.std.proofs.Common.{All, List, MutBor, Option, [], ap, append-nil, append_assoc, arith, drop, get_or, inl, inr, length}
pub use Rattle.std.proofs.Common.{length-append, map, max, nat_eq, refl, replicate, slice_index_or, subst, suc, sym, take, vec_len, zero, ℕ}
pub use Rattle.std.proofs.Common.{◌++◌, ◌+◌, ◌-◌, ◌<◌, ◌∙◌, ◌∷◌, ◌≡◌, ◌≤◌}
pub use Rattle.std.proofs.Math.ListN.{set}
pub use Rattle.std.proofs.lemmas.Iterator.{YieldsList}
pub use Rattle.std.proofs.lemmas.List.{get_or-map, length-map, map-append, map-id, map-set}
pub use Rattle.std.proofs.lemmas.List.Elements.{All-cons, All-head, All-map, All-nil, All-set, All-tail}
pub use Rattle.std.specs.Cmp.Lexicographic.{pointwise}
pub use Rattle.std.specs.Iterator.{IsFiniteIterable}
pub use Rattle.std.specs.List.{AllZip}
pub use Rattle.std.specs.Prelude.{Err, Ok, OnErr, OnOk, Result}
pub use Rattle.std.specs.Vec.{vec_capacity}
pub use Rattle.std.specs.declared.alloc.Global.{Global}
pub use Rattle.std.specs.declared.vec.Vec.{Vec}
pub use Rattle.tabled_base.specs.Cells.{IsRectangular, cell_at, columns, lengthened, lengthened_rows, longest, row_texts, texts_of}
pub use Rattle.tabled_base.specs.Cells.{with_cell, with_record}
pub use Rattle.tabled_base.specs.Given.{Given}
pub use Rattle.tabled_base.specs.Picks.{between, block}
pub use Rattle.tabled_base.specs.declared.error.TableError.{TableError}
pub use Rattle.tabled_base.specs.declared.error.TableError.TheVariants.{Memory}
pub use Rattle.tabled_base.specs.declared.position.Entity.TheVariants.{Cell}
pub use base.Logic.{emp, ent}
pub use contract.Monad.{fact, fact_i}
pub use denote.Builtin.{unit}
pub use denote.Enum.Declared.{shape}
pub use denote.Enum.Enum.{form_of, in_a_row}
pub use denote.Enum.Row.{tagged_with}
pub use denote.RattleType.{RattleType, Valss, owns}
pub use denote.Steps.{nothing}
pub use mir.Val.{Val, of_list, vnil, vunit}
pub use seplogic.Ra.Ura.{Ura}
pub use types.Kit.{done, feq_i, fjoin, fpack, fsplit, keep, !, move, qed, raw, rewrite, use0, use1, ‵, ◌$◌, ◌∵◌}
pub use types.Logic.{Logic, sem}
pub use types.Match.{live}
