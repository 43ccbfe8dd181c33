-- What proofs by hand of calls that lend a table again cite, passed on from one place.
pub use Rattle.std.proofs.Common.{◌≡◌, inl, inr, ℕ, List, [], ◌∷◌, ◌++◌, refl, sym, subst, lit<, MutBor}
pub use Rattle.std.proofs.raw_atomic.Walks.{proved_at}
pub use Rattle.std.specs.Prelude.{Result, Ok, Err, OnOk, IfErr, ⊤, length}
pub use seplogic.Ra.Ura.{Ura}
pub use base.Fraction.{full_share, left, right}
pub use base.Logic.{id⊢, emp, SProp, wand, apply∗}
pub use base.Fml.{ftrue, flft, fdead}
pub use lib.Dec.{T}
pub use mir.Syntax.{named, Args, Dict, Fn, a_type, dcons, dnil}
pub use mir.MapTy.{inst_fn}
pub use mir.Val.{Val, vptr, of_list, WT, has_ty}
pub use prog.Wp.{spot_of, WpFn}
pub use contract.BorrowLft.{◌⊑◌, meet_⊑_left, meet_⊑_right}
pub use contract.Monad.{fact, fact_i}
pub use contract.Running.{tables}
pub use types.Logic.{Logic}
pub use types.Kit.{‵, raw, prop, ◌⊛◌, some, later, at_ret, ◌$◌, ◌∵◌, !, qed, done, move, keep, use0, use1, use2, use3, split, join}
pub use types.Kit.{fsplit, fsplit3, fjoin, pick, await, rewrite, regoal, suffices}
pub use types.Run.{enter, of_opd, lit, addr, stop, fld, no_more, and_then, first, switches, exec, returns}
pub use types.Part.{agg, whole}
pub use types.Match.{live, vrt, in_variant}
pub use types.ByLocal.{alloc_all, pass_all, free_all, look_at, get, get_in, get_tag, through, sets, sets_last, lands_as, env}
pub use types.Tokens.{lft_new, lft_end}
pub use denote.Builtin.{unit}
pub use denote.Exit.{no}
pub use denote.Laws.{Typed}
pub use denote.Lend.{lends_again, comes_back, LentAgain}
pub use denote.Param.{param, layout, bounded}
pub use denote.Param.Laws.{param_laws}
pub use denote.RattleType.{RattleType, owns}
pub use denote.Ref.{MutRef, mut_vals}
pub use denote.Signature.{plain, mut_ref_to, types_at}
pub use denote.Steps.{nothing, heard}
pub use denote.Triple.Call.{calls_at}
pub use denote.Triple.Clauses.{lasts}
pub use denote.Triple.Spec.{triple_of}
pub use denote.Triple.Table.{framed}
pub use denote.Triple.Walked.{Stays, walk_of, stay_dropped, Goes-dropped, Goes-spent_ref, ends_at}
pub use Rattle.std.proofs.VecSteps.Shapes.{after}
pub use Rattle.tabled_base.proofs.Rests.{Rests, rests_at_ok, rests_at_err, ok_of, err_of}
pub use Rattle.tabled_base.proofs.Refusals.{Done, IsCause, accepted, cause, refused, told_ok, told_err, cause_made, single, apart}
pub use Rattle.tabled_base.proofs.Refusals.{by_done}
pub use Rattle.tabled_base.specs.declared.error.TableError.{TableError}
pub use Rattle.tabled_base.specs.declared.error.TableError.TheVariants.{Range}
pub use Rattle.tabled_base.specs.contracts.error.TableError.{the_row as TE}
pub use Rattle.tabled_base.specs.Cells.{columns}
