-- `modify` by hand: the table is lent again to `apply_own`, comes back as that left it, and is handed on or given up.
use Rattle.tabled_table.proofs.Names.{cells_of}
use Rattle.tabled_table.proofs.Walks.{[], !, a_type, accepted, addr, after, agg, alloc_all, and_then, apart, Args, at_ret, await, bounded}
use Rattle.tabled_table.proofs.Walks.{by_done, calls_at, cause, cause_made, columns, comes_back, dcons, Dict, dnil, done, Done, emp}
use Rattle.tabled_table.proofs.Walks.{ends_at, enter, env, Err, err_of, exec, fact, fact_i, first, fjoin, fld, flft, Fn, framed, free_all}
use Rattle.tabled_table.proofs.Walks.{fsplit, fsplit3, ftrue, full_share, get, get_in, get_tag, Goes-dropped, Goes-spent_ref, has_ty, heard}
use Rattle.tabled_table.proofs.Walks.{id⊢, IfErr, in_variant, inl, inr, inst_fn, IsCause, join, keep, lands_as, lasts, later, layout}
use Rattle.tabled_table.proofs.Walks.{lends_again, length, LentAgain, lft_end, lft_new, List, lit, lit<, live, Logic, look_at, move}
use Rattle.tabled_table.proofs.Walks.{mut_ref_to, mut_vals, MutBor, MutRef, named, no, no_more, nothing, of_list, of_opd, Ok, ok_of, OnOk}
use Rattle.tabled_table.proofs.Walks.{owns, param, param_laws, pass_all, pick, plain, prop, proved_at, qed, RattleType, raw, refl, refused}
use Rattle.tabled_table.proofs.Walks.{regoal, Rests, rests_at_err, rests_at_ok, Result, returns, rewrite, sets, sets_last, single, some}
use Rattle.tabled_table.proofs.Walks.{split, spot_of, SProp, stay_dropped, Stays, stop, subst, suffices, switches, sym, T, TableError}
use Rattle.tabled_table.proofs.Walks.{tables, TE, through, told_err, told_ok, triple_of, Typed, types_at, unit, Ura, use0, use1, use2, use3}
use Rattle.tabled_table.proofs.Walks.{Val, vptr, vrt, walk_of, whole, WpFn, WT, ‵, ℕ, ⊤, ◌$◌, ◌++◌, ◌∵◌, ◌∷◌, ◌≡◌, ◌⊑◌, ◌⊛◌}
use Rattle.tabled_table.specs.Applied.{IsModified, Modification, ModifyingFails}
use Rattle.tabled_table.specs.contracts.table.Table.{the_row as R}
use Rattle.tabled_table.proofs.table.Table.modify.Statement.{statement}
use Rattle.tabled_table.proofs.table.Table.apply_own.Met.{met}
use Rattle.std.specs.contracts.result.Result as result
use Rattle.tabled_table.specs.contracts.table.Table.modify as f
use Rattle.tabled_table.proofs.table.Table.modify.Code as code
use Rattle.tabled_table.specs.contracts.table.Table.apply_own as g

abbrev given_args : RattleType → RattleType → Dict → Dict → Dict → Dict → Args
given_args A O d₁ d₂ d₃ d₄ = bounded (a_type ∷ a_type ∷ []) (A, (O, tt)) (dcons d₁ (dcons d₂ (dcons d₃ (dcons d₄ dnil))))

module _ {M : Type 1} {𝓤 : Ura M} (𝓛 : Logic 𝓤) (A O : RattleType) (d₁ d₂ d₃ d₄ : Dict) (l : ℕ → ℕ) where
  -- a local may hold a value
  abbrev Fits : ℕ → Val → Type 0
  Fits i v = T (has_ty (spot_of 𝓤 𝓛.H (env (inst_fn (given_args A O d₁ d₂ d₃ d₄) code.function).locals l) i).0 v) × WT v

  fits_cause : (e : TableError) (h : IsCause e) → Fits 4 (cause e h)
  fits_cause e (inl m) = (tt, (record { fits = lit< tt }, tt))
  fits_cause e (inr r) = (tt, (record { fits = lit< tt }, tt))

  fits_answer : (e : TableError) (h : IsCause e) → Fits 5 (refused e h)
  fits_answer e (inl m) = (tt, (record { fits = lit< tt }, ((record { fits = lit< tt }, tt), tt)))
  fits_answer e (inr r) = (tt, (record { fits = lit< tt }, ((record { fits = lit< tt }, tt), tt)))

  fits_result : (e : TableError) (h : IsCause e) → Fits 9 (refused e h)
  fits_result e (inl m) = (tt, (record { fits = lit< tt }, ((record { fits = lit< tt }, tt), tt)))
  fits_result e (inr r) = (tt, (record { fits = lit< tt }, ((record { fits = lit< tt }, tt), tt)))

pub modify_spec : {M : Type 1} → statement M
modify_spec 𝓤 𝓛 𝓜 𝓡 wired A O L₀ L₁ g₁ d₁ g₂ d₂ d₃ d₄ m₁ m₂ m₃ m₄ =
    let En = f.ended A O g₁ d₁ g₂ d₂ d₃ d₄ in
    let c = f.clauses A O g₁ d₁ g₂ d₂ d₃ d₄ 𝓛 𝓜.mem 𝓡.returns in
    let gE = g.ended A O g₁ d₁ g₂ d₂ d₃ d₄ in
    let ts : Args = given_args A O d₁ d₂ d₃ d₄ in
    let fn : Fn = inst_fn ts code.function in
    let stays : Stays En.signature.params En.kept = (
      stay_dropped (mut_ref_to (0 ∷ []) tt (plain (λ _. R))) no,
      (stay_dropped (plain (λ _. param 0 A)) no, (stay_dropped (plain (λ _. param 1 O)) no, tt)),
    ) in
    let W = walk_of 𝓛 En stays c in let 𝓣 = tables 𝓤 𝓛.H 𝓜 𝓡 𝓡.env in
    proved_at 𝓛 En stays c 𝓜 𝓡 (
      Goes-spent_ref 𝓛 3 (0 ∷ []) tt (plain (λ _. R)),
      (
        Goes-dropped 𝓛 3 (plain (λ _. param 0 A)) no (λ κs x w. refl),
        (Goes-dropped 𝓛 3 (plain (λ _. param 1 O)) no (λ κs x w. refl), tt),
      ),
    )
    (f.Key.name ts) fn (code.unfolded 𝓤 𝓛.H 𝓜 𝓡 wired (A, (O, tt)) d₁ d₂ d₃ d₄) (λ y are.
    let κs = y.0.0 in let qs = y.0.1 in let a = y.0.3 in let vss = y.0.4 in
    let κ = κs.0 in let q = qs.0 in let r = a.0 in let x = a.1.0 in let u = a.1.1.0 in let b = r.ref_ptr.0 in
    let o = r.ref_ptr.1 in let vs = mut_vals r in
    let Post : Val → SProp 𝓤 = W.post y in
    let Ref = λ (κ' : List ℕ) (s : MutBor R.Denot). (MutRef (named 0) κ' R).own_val s vs in
    let one = single vss.1.0 (L₀.single x vss.1.0 are.1.0) in let v : Val = one.0 in
    let two = single vss.1.1.0 (L₁.single u vss.1.1.0 are.1.1.0) in let v' : Val = two.0 in
    let Own-A = λ (ws : List Val). A.own_val x ws in let Own-O = λ (ws : List Val). O.own_val u ws in
    let wt : Typed (layout A ∷ []) (v ∷ []) = subst (Typed (layout A ∷ [])) one.1 (((param_laws 0 A L₀).lawful 𝓛).typed x vss.1.0 are.1.0) in
    let wt' : Typed (layout O ∷ []) (v' ∷ []) = subst (Typed (layout O ∷ [])) two.1 (((param_laws 1 O L₁).lawful 𝓛).typed u vss.1.1.0 are.1.1.0) in
    let others = ‵ (flft κs.1.0 qs.1.0) ⊛ ‵ (flft κs.1.1.0 qs.1.1.0) ⊛ ‵ ftrue in
    let O₁ : Type 0 = κs.1.0 ⊑ A.lives in let O₂ : Type 0 = κs.1.1.0 ⊑ O.lives in
    qed 𝓛 (((‵ (flft κ q) ⊛ others) ⊛ ‵ (owns (types_at En.signature.params κs) a vss)) ∷ (raw (fact 𝓤 O₁) ⊛ raw (fact 𝓤 O₂) ⊛ ‵ ftrue) ∷ []) ∵
    move ! (1 ∷ []) $ split ! $ heard ! O₁ (λ o₁. split ! $ heard ! O₂ (λ o₂. keep ! (1 ∷ []) $
    split ! $ split ! $ move ! (2 ∷ []) $ fsplit ! $ move ! (1 ∷ []) $ fsplit ! $ move ! (1 ∷ []) $ fsplit ! $
    -- [the option; nothing; the target; self; the token of κ; the other tokens]
    rewrite ! 3 (λ (ws : List Val). ‵ ((MutRef (named 0) κ R).own_val r ws)) are.0.0 refl $
    rewrite ! 2 (λ (ws : List Val). ‵ (Own-A ws)) one.1 refl $ rewrite ! 0 (λ (ws : List Val). ‵ (Own-O ws)) two.1 refl $
    keep ! (3 ∷ 4 ∷ 2 ∷ 0 ∷ 5 ∷ []) $
    regoal ! (λ (ws : List Val). prop (WpFn 𝓤 𝓛.H 𝓣.C 𝓣.Λ fn ws Post)) (λ i. are.0.0 i ++ (one.1 i ++ (two.1 i ++ []))) refl $
    enter ! 𝓣.C 𝓣.Λ fn (vptr b o ∷ v ∷ v' ∷ []) Post $ alloc_all ! (λ l. pass_all ! refl ((tt, tt), (wt.0, (wt'.0, tt))) $
    sets ! (addr ! (through ! refl (stop !))) refl (tt, tt) $ sets ! (of_opd ! (get ! refl)) refl wt.0 $ sets ! (of_opd ! (get ! refl)) refl wt'.0 $
    lft_new ! tt (λ α. move ! (1 ∷ 2 ∷ []) $
    use2 𝓛 (later (some (λ (δ : ℕ). ‵ (Ref (α ∷ []) (record r { ghost_name = δ })) ⊛ ‵ (LentAgain R κ (α ∷ []) q r.ghost_name b o δ r.now))))
    (lends_again 𝓛 R (named 0) κ (α ∷ []) q r.ghost_name b o (named 0) r.now) $ await ! tt $ pick ! (λ δ. split ! $
    -- [the loan; what the lender keeps; the token of α; the target; the option; the other tokens]
    let G = triple_of 𝓛 (g.signature A O) (g.spec A O g₁ d₁ g₂ d₂ d₃ d₄ 𝓛 𝓜.mem 𝓡.returns) in
    let z : G.Ghost = (((α ∷ [], κs.1), (full_share, qs.1), tt, (record r { ghost_name = δ }, (x, (u, tt))), (vs, (v ∷ [], (v' ∷ [], tt)))), tt) in
    nothing ! $ move ! (5 ∷ 0 ∷ []) $ join ! $ move ! (4 ∷ 0 ∷ []) $ join ! $ move ! (1 ∷ 0 ∷ []) $ join ! $ move ! (2 ∷ 3 ∷ []) $ join ! $ join ! $
    nothing ! $ use0 𝓛 (raw (fact 𝓤 O₂)) (fact_i 𝓤 O₂ (emp 𝓤) o₂) $ join ! $ use0 𝓛 (raw (fact 𝓤 O₁)) (fact_i 𝓤 O₁ (emp 𝓤) o₁) $ join ! $
    move ! (1 ∷ 0 ∷ []) $ use2 𝓛 (raw (G.pre z)) (id⊢ 𝓤 _) $
    let parts = g₁.picks x (length (cells_of r.now)) (columns (cells_of r.now)) in
    let Applied = λ (n : R.Denot). IsModified (g₂.changes u) parts (g₂.hint u) r.now n in
    let m : Modification = record {
      is_undone = g₂.is_undone u;
      changes = g₂.changes u;
      fails = g₂.fails u;
      out_of_range = g₂.out_of_range u;
      entities = parts;
    } in
    let Left = λ (e : TableError) (n : R.Denot). ModifyingFails m e r.now n in
    let Known = λ (e : TableError). ((n : R.Denot) × Left e n) in
    calls_at ! (framed 𝓤 𝓛.H 𝓜 𝓣) G (met 𝓤 𝓛 𝓜 𝓡 (code.calls-tabled_table::table::Table::apply_own 𝓡.env wired) A O L₀
    L₁ g₁ d₁ g₂ d₂ d₃ d₄ m₁ m₂ m₃ m₄) z
    (and_then ! (get ! refl) (and_then ! (get ! refl) (and_then ! (get ! refl) (no_more !)))) (λ w.
    use1 𝓛 (later (some (λ (t : Done). ((‵ (flft (α ∷ []) full_share) ⊛ others) ⊛ ‵ ((result.the_row unit TE).own_val t (w ∷ []))) ⊛
    some (λ (ws : R.Denot × (Unit {0} × (Unit {0} × Unit {0}))). ‵ (lasts gE z.0.0 z.0.3 ws) ⊛ (raw (fact 𝓤 (OnOk t (Applied ws.0))) ⊛
    raw (fact 𝓤 (IfErr t (λ e. Left e ws.0))) ⊛ raw (fact 𝓤 (IfErr t IsCause))))))) (id⊢ 𝓤 _) $
    await ! tt $ pick ! (λ t. split ! $ split ! $ split ! $ move ! (3 ∷ []) $ pick ! (λ ws. split ! $ move ! (1 ∷ []) $
    split ! $ heard ! _ (λ applied. split ! $ heard ! _ (λ left. heard ! _ (λ only'. fsplit ! $ fsplit ! $
    -- [the loan's last value; its borrow; nothing; the token of α; the other tokens; the result; what the lender keeps]
    move ! (3 ∷ []) $ lft_end ! tt $ move ! (0 ∷ 6 ∷ 1 ∷ []) $ use3 𝓛 (later (‵ (Ref κ (record r { now = ws.0 })) ⊛ ‵ (flft κ q)))
    (comes_back 𝓛 R (named 0) κ (α ∷ []) q r.ghost_name b o δ r.now ws.0) $ await ! tt $ split ! $
    -- [self; the token of κ; the borrow; nothing; the other tokens; the result]
    move ! (5 ∷ []) $
    let self' : MutBor R.Denot = record r { now = ws.0 } in
    let Own = MutRef (named 0) κ R in
    let Answer = λ (s : Done). ‵ ((result.the_row unit TE).own_val s (w ∷ [])) in
    by_done t
    (λ p. rewrite ! 0 Answer p refl $ use1 𝓛 (raw (fact 𝓤 (w ≡ accepted))) (told_ok 𝓛 w) $ heard ! _ (λ is.
    let P = λ (n : R.Denot). ⊤ in
    lands_as ! is refl (tt, (record { fits = lit< tt }, (tt, tt))) $
    first ! $ switches ! (get_tag ! (vrt ! refl (fld ! refl (stop !))) (whole !)) (
      (λ k. sets ! (addr ! (through ! refl (stop !))) refl (tt, tt) $
          sets_last ! (agg ! (and_then ! (lit ! tt) (and_then ! (get ! refl) (no_more !)))) refl (tt, (record { fits = lit< tt }, (tt, tt))) $
          exec ! 𝓣.C 𝓣.Λ (env fn.locals l) (after 5 fn.body) (at_ret _ Post) $
          sets ! (of_opd ! (get ! refl)) refl (tt, (record { fits = lit< tt }, (tt, tt))) $
          returns ! (look_at ! 0 refl) $ free_all ! refl $ keep ! (0 ∷ 1 ∷ 4 ∷ []) $
          use1 𝓛 (‵ ((result.the_row Own TE).own_val (Ok self') (live 0 (of_list vs) ∷ []))) (ok_of 𝓛 Own TE self' (vptr b o)) $
          suffices ! _ (ends_at 𝓛 En stays c y (live 0 (of_list vs)) (Ok self') (tt, (tt, (tt, tt))) (tt, (tt, (tt, tt)))) $
          use0 𝓛 (‵ (Rests 𝓛 R TableError r P (Ok self'))) (rests_at_ok 𝓛 R TableError r P self' refl) $ move ! (1 ∷ 0 ∷ []) $
          nothing ! $ nothing ! $ fjoin ! $ nothing ! $ fjoin ! $ nothing ! $ fjoin ! $ join ! $ move ! (2 ∷ 3 ∷ []) $ join ! $ join ! $
          use0 𝓛 (raw (fact 𝓤 ⊤)) (fact_i 𝓤 ⊤ (emp 𝓤) tt) $ use0 𝓛 (raw (fact 𝓤 ⊤)) (fact_i 𝓤 ⊤ (emp 𝓤) tt) $ join ! $
          use0 𝓛 (raw (fact 𝓤 (Applied ws.0))) (fact_i 𝓤 (Applied ws.0) (emp 𝓤) (subst (λ (s : Done). OnOk s (Applied ws.0)) p applied)) $ join ! $
          use0 𝓛 (raw (fact 𝓤 (r.ghost_name ≡ r.ghost_name))) (fact_i 𝓤 (r.ghost_name ≡ r.ghost_name) (emp 𝓤) refl) $ join ! $
          move ! (1 ∷ 2 ∷ 0 ∷ []) $ done !),
      ((λ k. absurd (apart k)), λ none. absurd (none.0.1 refl)),
    )))
    (λ e p. let h : IsCause e = subst (λ (s : Done). IfErr s IsCause) p only' in
    let was : Left e ws.0 = subst (λ (s : Done). IfErr s (λ e'. Left e' ws.0)) p left in
    rewrite ! 0 Answer p refl $ use1 𝓛 (raw (fact 𝓤 (w ≡ refused e h))) (told_err 𝓛 w e h) $ heard ! _ (λ is.
    let P = λ (n : R.Denot). Left e n in
    let failed : Result (MutBor R.Denot) TableError = Err e in
    lands_as ! is refl (fits_answer 𝓛 A O d₁ d₂ d₃ d₄ l e h) $
    first ! $ switches ! (get_tag ! (vrt ! refl (fld ! refl (stop !))) (whole !)) (
      (λ k. absurd (apart (sym k))),
      (
        (λ k. sets ! (of_opd ! (get_in ! (vrt ! refl (fld ! refl (stop !))) (in_variant ! 1 0 refl refl (whole !))))
            refl (fits_cause 𝓛 A O d₁ d₂ d₃ d₄ l e h) $
            sets_last ! (agg ! (and_then ! (lit ! tt) (and_then ! (get ! refl) (no_more !)))) refl (fits_result 𝓛 A O d₁ d₂ d₃ d₄ l e h) $
            exec ! 𝓣.C 𝓣.Λ (env fn.locals l) (after 5 fn.body) (at_ret _ Post) $
            sets ! (of_opd ! (get ! refl)) refl (fits_result 𝓛 A O d₁ d₂ d₃ d₄ l e h) $
            returns ! (look_at ! 0 refl) $ free_all ! refl $ fsplit3 ! $ keep ! (1 ∷ 3 ∷ 6 ∷ []) $
            use1 𝓛 (‵ (Rests 𝓛 R TableError r P failed)) (rests_at_err 𝓛 R TableError r P e ws.0 was) $
            use0 𝓛 (‵ (TE.own_val e (cause e h ∷ []))) (cause_made 𝓛 e h) $
            use1 𝓛 (‵ ((result.the_row Own TE).own_val failed (refused e h ∷ []))) (err_of 𝓛 Own TE e (cause e h)) $
            suffices ! _ (ends_at 𝓛 En stays c y (refused e h) failed (tt, (tt, (tt, tt))) (tt, (tt, (tt, tt)))) $
            nothing ! $ nothing ! $ fjoin ! $ nothing ! $ fjoin ! $ nothing ! $ fjoin ! $ join ! $ move ! (2 ∷ 3 ∷ []) $ join ! $ join ! $
            use0 𝓛 (raw (fact 𝓤 (IsCause e))) (fact_i 𝓤 (IsCause e) (emp 𝓤) h) $
            use0 𝓛 (raw (fact 𝓤 (Known e))) (fact_i 𝓤 (Known e) (emp 𝓤) (ws.0, was)) $ join ! $
            use0 𝓛 (raw (fact 𝓤 ⊤)) (fact_i 𝓤 ⊤ (emp 𝓤) tt) $ join ! $ use0 𝓛 (raw (fact 𝓤 ⊤)) (fact_i 𝓤 ⊤ (emp 𝓤) tt) $ join ! $
            move ! (1 ∷ 2 ∷ 0 ∷ []) $ done !),
        λ none. absurd (none.1 refl),
      ),
    )))))))))))))))
