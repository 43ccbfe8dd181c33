-- `with` by hand: the table is lent again to `apply`, comes back as that left it, and is passed on or given up.
use Rattle.tabled_pool.proofs.Names.{List, [], inl, inr, refl, subst, sym, ℕ, ◌++◌, ◌∷◌, ◌≡◌}
use Rattle.std.proofs.Common.{MutBor, lit<}
use Rattle.std.proofs.raw_atomic.Walks.{proved_at}
use Rattle.std.specs.Prelude.{Result, Ok, Err, OnOk, IfErr, ⊤}
use seplogic.Ra.Ura.{Ura}
use base.Fraction.{full_share}
use base.Logic.{id⊢, emp, SProp}
use base.Fml.{ftrue, flft}
use lib.Dec.{T}
use mir.Syntax.{named, Args, Dict, Fn, a_type, dcons, dnil}
use mir.MapTy.{inst_fn}
use mir.Val.{Val, vptr, of_list, WT, has_ty}
use prog.Wp.{spot_of, WpFn}
use contract.BorrowLft.{◌⊑◌}
use contract.Monad.{fact, fact_i}
use contract.Running.{tables}
use types.Logic.{Logic}
use types.Kit.{‵, raw, prop, ◌⊛◌, some, later, at_ret, ◌$◌, ◌∵◌, !, qed, done, move, keep, use0, use1, use2, use3, split, join, fsplit}
use types.Kit.{fsplit3, fjoin, pick, await, rewrite, regoal, suffices}
use types.Run.{enter, of_opd, lit, addr, stop, fld, no_more, and_then, first, switches, exec, returns}
use types.Part.{agg, whole}
use types.Match.{live, vrt, in_variant}
use types.ByLocal.{alloc_all, pass_all, free_all, look_at, get, get_in, get_tag, through, sets, sets_last, lands_as, env}
use types.Tokens.{lft_new, lft_end}
use denote.Builtin.{unit}
use denote.Exit.{no}
use denote.Laws.{Typed}
use denote.Lend.{lends_again, comes_back, LentAgain}
use denote.Param.{param, layout, bounded}
use denote.Param.Laws.{param_laws}
use denote.RattleType.{RattleType, owns}
use denote.Ref.{MutRef, mut_vals}
use denote.Signature.{plain, mut_ref_to, types_at}
use denote.Steps.{nothing, heard}
use denote.Triple.Call.{calls_at}
use denote.Triple.Clauses.{lasts}
use denote.Triple.Spec.{triple_of}
use denote.Triple.Table.{framed}
use denote.Triple.Walked.{Stays, walk_of, stay_dropped, Goes-dropped, Goes-spent_ref, ends_at}
use Rattle.std.proofs.VecSteps.Shapes.{after}
use Rattle.std.specs.contracts.result.Result as result
use Rattle.tabled_base.proofs.Rests.{Rests, rests_at_ok, rests_at_err, ok_of, err_of}
use Rattle.tabled_base.proofs.Refusals.{Done, IsCause, accepted, cause, refused, told_ok, told_err, cause_made, single, apart, by_done}
use Rattle.tabled_base.specs.declared.error.TableError.{TableError}
use Rattle.tabled_base.specs.declared.error.TableError.TheVariants.{Range}
use Rattle.tabled_base.specs.contracts.error.TableError.{the_row as TE}
use Rattle.tabled_pool.specs.NewPool.{IsAppliedToPool, WasOutOfRange}
use Rattle.tabled_pool.specs.contracts.pool_table.PoolTable.{the_row as R}
use Rattle.tabled_pool.specs.contracts.pool_table.PoolTable.with as f
use Rattle.tabled_pool.proofs.pool_table.PoolTable.with.Statement.{statement}
use Rattle.tabled_pool.proofs.pool_table.PoolTable.with.Code as code
use Rattle.tabled_pool.specs.contracts.pool_table.PoolTable.apply as g
use Rattle.tabled_pool.proofs.pool_table.PoolTable.apply.Met.{met}

abbrev given_args : RattleType → Dict → Args
given_args O d = bounded (a_type ∷ []) (O, tt) (dcons d dnil)

module _ {M : Type 1} {𝓤 : Ura M} (𝓛 : Logic 𝓤) (O : RattleType) (d : Dict) (l : ℕ → ℕ) where
  -- a local may hold a value
  abbrev Fits : ℕ → Val → Type 0
  Fits i v = T (has_ty (spot_of 𝓤 𝓛.H (env (inst_fn (given_args O d) code.function).locals l) i).0 v) × WT v

  fits_cause : (e : TableError) (h : IsCause e) → Fits 3 (cause e h)
  fits_cause e (inl m) = (tt, (record { fits = lit< tt }, tt))
  fits_cause e (inr r) = (tt, (record { fits = lit< tt }, tt))

  fits_answer : (e : TableError) (h : IsCause e) → Fits 4 (refused e h)
  fits_answer e (inl m) = (tt, (record { fits = lit< tt }, ((record { fits = lit< tt }, tt), tt)))
  fits_answer e (inr r) = (tt, (record { fits = lit< tt }, ((record { fits = lit< tt }, tt), tt)))

  fits_result : (e : TableError) (h : IsCause e) → Fits 7 (refused e h)
  fits_result e (inl m) = (tt, (record { fits = lit< tt }, ((record { fits = lit< tt }, tt), tt)))
  fits_result e (inr r) = (tt, (record { fits = lit< tt }, ((record { fits = lit< tt }, tt), tt)))

pub with_spec : {M : Type 1} → statement M
with_spec 𝓤 𝓛 𝓜 𝓡 wired O L₀ g₁ d₁ m₁ =
    let En = f.ended O g₁ d₁ in
    let c = f.clauses O g₁ d₁ 𝓛 𝓜.mem 𝓡.returns in
    let gE = g.ended O g₁ d₁ in
    let ts : Args = given_args O d₁ in
    let fn : Fn = inst_fn ts code.function in
    let stays : Stays En.signature.params En.kept =
    (stay_dropped (mut_ref_to (0 ∷ []) tt (plain (λ _. R))) no, (stay_dropped (plain (λ _. param 0 O)) no, tt)) in
    let W = walk_of 𝓛 En stays c in let 𝓣 = tables 𝓤 𝓛.H 𝓜 𝓡 𝓡.env in
    proved_at 𝓛 En stays c 𝓜 𝓡 (Goes-spent_ref 𝓛 2 (0 ∷ []) tt (plain (λ _. R)), (Goes-dropped 𝓛 2 (plain (λ _. param 0 O)) no (λ κs x w. refl), tt))
    (f.Key.name ts) fn (code.unfolded 𝓤 𝓛.H 𝓜 𝓡 wired (O, tt) d₁) (λ y are.
    let κs = y.0.0 in let qs = y.0.1 in let a = y.0.3 in let vss = y.0.4 in
    let κ = κs.0 in let q = qs.0 in let r = a.0 in let x = a.1.0 in let b = r.ref_ptr.0 in let o = r.ref_ptr.1 in let vs = mut_vals r in
    let Post : Val → SProp 𝓤 = W.post y in
    let Ref = λ (κ' : List ℕ) (s : MutBor R.Denot). (MutRef (named 0) κ' R).own_val s vs in
    let one = single vss.1.0 (L₀.single x vss.1.0 are.1.0) in let v : Val = one.0 in
    let Own-O = λ (ws : List Val). O.own_val x ws in
    let wt : Typed (layout O ∷ []) (v ∷ []) = subst (Typed (layout O ∷ [])) one.1 (((param_laws 0 O L₀).lawful 𝓛).typed x vss.1.0 are.1.0) in
    let others = ‵ (flft κs.1.0 qs.1.0) ⊛ ‵ ftrue in
    let O₁ : Type 0 = κs.1.0 ⊑ O.lives in
    qed 𝓛 (((‵ (flft κ q) ⊛ others) ⊛ ‵ (owns (types_at En.signature.params κs) a vss)) ∷ (raw (fact 𝓤 O₁) ⊛ ‵ ftrue) ∷ []) ∵
    move ! (1 ∷ []) $ split ! $ heard ! O₁ (λ o₁. keep ! (1 ∷ []) $
    split ! $ split ! $ move ! (2 ∷ []) $ fsplit ! $ move ! (1 ∷ []) $ fsplit ! $
    -- [the option; nothing; self; the token of κ; the other tokens]
    rewrite ! 2 (λ (ws : List Val). ‵ ((MutRef (named 0) κ R).own_val r ws)) are.0.0 refl $
    rewrite ! 0 (λ (ws : List Val). ‵ (Own-O ws)) one.1 refl $
    keep ! (2 ∷ 3 ∷ 0 ∷ 4 ∷ []) $
    regoal ! (λ (ws : List Val). prop (WpFn 𝓤 𝓛.H 𝓣.C 𝓣.Λ fn ws Post)) (λ i. are.0.0 i ++ (one.1 i ++ [])) refl $
    enter ! 𝓣.C 𝓣.Λ fn (vptr b o ∷ v ∷ []) Post $ alloc_all ! (λ l. pass_all ! refl ((tt, tt), (wt.0, tt)) $
    sets ! (addr ! (through ! refl (stop !))) refl (tt, tt) $ sets ! (of_opd ! (get ! refl)) refl wt.0 $
    lft_new ! tt (λ α. move ! (1 ∷ 2 ∷ []) $
    use2 𝓛 (later (some (λ (δ : ℕ). ‵ (Ref (α ∷ []) (record r { ghost_name = δ })) ⊛ ‵ (LentAgain R κ (α ∷ []) q r.ghost_name b o δ r.now))))
    (lends_again 𝓛 R (named 0) κ (α ∷ []) q r.ghost_name b o (named 0) r.now) $ await ! tt $ pick ! (λ δ. split ! $
    -- [the loan; what the lender keeps; the token of α; the option; the other tokens]
    let G = triple_of 𝓛 (g.signature O) (g.spec O g₁ d₁ 𝓛 𝓜.mem 𝓡.returns) in
    let z : G.Ghost = (((α ∷ [], κs.1), (full_share, qs.1), tt, (record r { ghost_name = δ }, (x, tt)), (vs, (v ∷ [], tt))), tt) in
    nothing ! $ move ! (4 ∷ 0 ∷ []) $ join ! $ move ! (1 ∷ 0 ∷ []) $ join ! $ move ! (2 ∷ 3 ∷ []) $ join ! $ join ! $
    nothing ! $ use0 𝓛 (raw (fact 𝓤 O₁)) (fact_i 𝓤 O₁ (emp 𝓤) o₁) $ join ! $
    move ! (1 ∷ 0 ∷ []) $ use2 𝓛 (raw (G.pre z)) (id⊢ 𝓤 _) $
    let Applied = λ (n : R.Denot). IsAppliedToPool (g₁.changes x) r.now n in
    let Promised = λ (n : R.Denot). IsAppliedToPool (g₁.promises x) r.now n in
    let Left = λ (e : TableError) (n : R.Denot). IsAppliedToPool (g₁.fails x e) r.now n in
    let Passes = λ (e : TableError). (e ≡ Range → WasOutOfRange (g₁.out_of_range x) r.now) in
    calls_at ! (framed 𝓤 𝓛.H 𝓜 𝓣) G (met 𝓤 𝓛 𝓜 𝓡 (code.calls-tabled_pool::pool_table::PoolTable::apply 𝓡.env wired) O L₀ g₁ d₁ m₁) z
    (and_then ! (get ! refl) (and_then ! (get ! refl) (no_more !))) (λ w.
    use1 𝓛 (later (some (λ (t : Done). ((‵ (flft (α ∷ []) full_share) ⊛ others) ⊛ ‵ ((result.the_row unit TE).own_val t (w ∷ []))) ⊛
    some (λ (ws : R.Denot × (Unit {0} × Unit {0})). ‵ (lasts gE z.0.0 z.0.3 ws) ⊛ (raw (fact 𝓤 (OnOk t (Applied ws.0))) ⊛
    raw (fact 𝓤 (OnOk t (Promised ws.0))) ⊛ raw (fact 𝓤 (IfErr t (λ e. Left e ws.0))) ⊛ raw (fact 𝓤 (IfErr t IsCause))
    ⊛ raw (fact 𝓤 (IfErr t Passes))))))) (id⊢ 𝓤 _) $
    await ! tt $ pick ! (λ t. split ! $ split ! $ split ! $ move ! (3 ∷ []) $ pick ! (λ ws. split ! $ move ! (1 ∷ []) $
    split ! $ heard ! _ (λ applied. split ! $ heard ! _
    (λ promised. split ! $ heard ! _ (λ left. split ! $ heard ! _ (λ only'. heard ! _ (λ passes. fsplit ! $ fsplit ! $
    -- [the loan's last value; its borrow; nothing; the token of α; the other tokens; the result; what the lender keeps]
    move ! (3 ∷ []) $ lft_end ! tt $ move ! (0 ∷ 6 ∷ 1 ∷ []) $ use3 𝓛 (later (‵ (Ref κ (record r { now = ws.0 })) ⊛ ‵ (flft κ q)))
    (comes_back 𝓛 R (named 0) κ (α ∷ []) q r.ghost_name b o δ r.now ws.0) $ await ! tt $ split ! $
    -- [self; the token of κ; the borrow; nothing; the other tokens; the result]
    move ! (5 ∷ []) $
    let self' : MutBor R.Denot = record r { now = ws.0 } in
    let Own = MutRef (named 0) κ R in
    let Answer = λ (s : Done). ‵ ((result.the_row unit TE).own_val s (w ∷ [])) in
    by_done t
    (λ p. rewrite ! 0 Answer p refl $ use1 𝓛 (raw (fact 𝓤 (w ≡ accepted))) (told_ok 𝓛 w) $ heard ! _ (λ is.
    let P = λ (n : R.Denot). ⊤ in
    lands_as ! is refl (tt, (record { fits = lit< tt }, (tt, tt))) $
    first ! $ switches ! (get_tag ! (vrt ! refl (fld ! refl (stop !))) (whole !)) (
      (λ k. sets ! (addr ! (through ! refl (stop !))) refl (tt, tt) $
          sets_last ! (agg ! (and_then ! (lit ! tt) (and_then ! (get ! refl) (no_more !)))) refl (tt, (record { fits = lit< tt }, (tt, tt))) $
          exec ! 𝓣.C 𝓣.Λ (env fn.locals l) (after 4 fn.body) (at_ret _ Post) $
          sets ! (of_opd ! (get ! refl)) refl (tt, (record { fits = lit< tt }, (tt, tt))) $
          returns ! (look_at ! 0 refl) $ free_all ! refl $ keep ! (0 ∷ 1 ∷ 4 ∷ []) $
          use1 𝓛 (‵ ((result.the_row Own TE).own_val (Ok self') (live 0 (of_list vs) ∷ []))) (ok_of 𝓛 Own TE self' (vptr b o)) $
          suffices ! _ (ends_at 𝓛 En stays c y (live 0 (of_list vs)) (Ok self') (tt, (tt, tt)) (tt, (tt, tt))) $
          use0 𝓛 (‵ (Rests 𝓛 R TableError r P (Ok self'))) (rests_at_ok 𝓛 R TableError r P self' refl) $ move ! (1 ∷ 0 ∷ []) $
          nothing ! $ nothing ! $ fjoin ! $ nothing ! $ fjoin ! $ join ! $ move ! (2 ∷ 3 ∷ []) $ join ! $ join ! $
          use0 𝓛 (raw (fact 𝓤 ⊤)) (fact_i 𝓤 ⊤ (emp 𝓤) tt) $ use0 𝓛 (raw (fact 𝓤 ⊤)) (fact_i 𝓤 ⊤ (emp 𝓤) tt) $ join ! $
          use0 𝓛 (raw (fact 𝓤 (Promised ws.0))) (fact_i 𝓤 (Promised ws.0) (emp 𝓤)
          (subst (λ (s : Done). OnOk s (Promised ws.0)) p promised)) $ join ! $
          use0 𝓛 (raw (fact 𝓤 (Applied ws.0))) (fact_i 𝓤 (Applied ws.0) (emp 𝓤) (subst (λ (s : Done). OnOk s (Applied ws.0)) p applied)) $ join ! $
          use0 𝓛 (raw (fact 𝓤 (r.ghost_name ≡ r.ghost_name))) (fact_i 𝓤 (r.ghost_name ≡ r.ghost_name) (emp 𝓤) refl) $ join ! $
          move ! (1 ∷ 2 ∷ 0 ∷ []) $ done !),
      ((λ k. absurd (apart k)), λ none. absurd (none.0.1 refl)),
    )))
    (λ e p. let h : IsCause e = subst (λ (s : Done). IfErr s IsCause) p only' in
    rewrite ! 0 Answer p refl $ use1 𝓛 (raw (fact 𝓤 (w ≡ refused e h))) (told_err 𝓛 w e h) $ heard ! _ (λ is.
    let P = λ (n : R.Denot). Left e n in
    let failed : Result (MutBor R.Denot) TableError = Err e in
    lands_as ! is refl (fits_answer 𝓛 O d₁ l e h) $
    first ! $ switches ! (get_tag ! (vrt ! refl (fld ! refl (stop !))) (whole !)) (
      (λ k. absurd (apart (sym k))),
      (
        (λ k. sets ! (of_opd ! (get_in ! (vrt ! refl (fld ! refl (stop !))) (in_variant ! 1 0 refl refl (whole !)))) refl (fits_cause 𝓛 O d₁ l e h) $
            sets_last ! (agg ! (and_then ! (lit ! tt) (and_then ! (get ! refl) (no_more !)))) refl (fits_result 𝓛 O d₁ l e h) $
            exec ! 𝓣.C 𝓣.Λ (env fn.locals l) (after 4 fn.body) (at_ret _ Post) $
            sets ! (of_opd ! (get ! refl)) refl (fits_result 𝓛 O d₁ l e h) $
            returns ! (look_at ! 0 refl) $ free_all ! refl $ fsplit3 ! $ keep ! (1 ∷ 3 ∷ 6 ∷ []) $
            use1 𝓛 (‵ (Rests 𝓛 R TableError r P failed))
            (rests_at_err 𝓛 R TableError r P e ws.0 (subst (λ (s : Done). IfErr s (λ e'. Left e' ws.0)) p left)) $
            use0 𝓛 (‵ (TE.own_val e (cause e h ∷ []))) (cause_made 𝓛 e h) $
            use1 𝓛 (‵ ((result.the_row Own TE).own_val failed (refused e h ∷ []))) (err_of 𝓛 Own TE e (cause e h)) $
            suffices ! _ (ends_at 𝓛 En stays c y (refused e h) failed (tt, (tt, tt)) (tt, (tt, tt))) $
            nothing ! $ nothing ! $ fjoin ! $ nothing ! $ fjoin ! $ join ! $ move ! (2 ∷ 3 ∷ []) $ join ! $ join ! $
            use0 𝓛 (raw (fact 𝓤 (Passes e))) (fact_i 𝓤 (Passes e) (emp 𝓤) (subst (λ (s : Done). IfErr s Passes) p passes)) $
            use0 𝓛 (raw (fact 𝓤 (IsCause e))) (fact_i 𝓤 (IsCause e) (emp 𝓤) h) $ join ! $
            use0 𝓛 (raw (fact 𝓤 ⊤)) (fact_i 𝓤 ⊤ (emp 𝓤) tt) $ join ! $ use0 𝓛 (raw (fact 𝓤 ⊤)) (fact_i 𝓤 ⊤ (emp 𝓤) tt) $ join ! $
            use0 𝓛 (raw (fact 𝓤 ⊤)) (fact_i 𝓤 ⊤ (emp 𝓤) tt) $ join ! $
            move ! (1 ∷ 2 ∷ 0 ∷ []) $ done !),
        λ none. absurd (none.1 refl),
      ),
    ))))))))))))))))
