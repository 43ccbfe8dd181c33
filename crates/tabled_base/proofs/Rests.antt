-- `RestsIfErr` at the two returns of a method that answers `Result<&mut Self, E>`, for any types and any relation.
--     rests_at_ok       at `Ok` of a reference with the lender's own name, the clause owes nothing
--     rests_at_err      at `Err`, the lender is given up, and what its name says last is what P holds of
use Rattle.tabled_base.proofs.Names.{Err, List, Logic, MutBor, Ok, OnErr, OnOk, RattleType, Result, Ura, Val, Valss, [], done, emp, ent}
use Rattle.tabled_base.proofs.Names.{feq_i, fjoin, form_of, fpack, in_a_row, live, !, move, nothing, of_list, owns, qed, refl, rewrite, sem}
use Rattle.tabled_base.proofs.Names.{shape, sym, tagged_with, use0, use1, ‵, ◌$◌, ◌∵◌, ◌∷◌, ◌≡◌}
use Rattle.std.specs.contracts.result.Result as result
use base.Fml.{GName, Fml, fobs, fres}
use denote.Follow.{follows, follows_by, such_by}
use borrow.Follows.Kept.{follows_itself}
use Rattle.std.specs.Borrow.{RestsIfErr, name_if_ok}

module _ {M : Type 1} {𝓤 : Ura M} (𝓛 : Logic 𝓤) (R : RattleType) (E : Type 0) (s : MutBor R.Denot) (P : R.Denot → Type 0) where
  abbrev D : Type 0
  D = R.Denot

  abbrev Res : Type 0
  Res = Result (MutBor R.Denot) E

  abbrev name : MutBor R.Denot → GName
  name t = t.ghost_name

  abbrev pub Rests : Res → Fml
  Rests r = RestsIfErr R s name r P

  abbrev Ways : Res → Type 0
  Ways r = (f : (D → D) × D) × ((w : D) → OnOk r (f.0 w ≡ w)) × OnErr r (P f.1)

  abbrev Way : (r : Res) → Ways r → Fml
  Way r f = follows_by D D R.coded.code R.coded.code s.ghost_name (name_if_ok name r) f.0.0 f.0.1

  pub rests_at_ok : (t : MutBor R.Denot) → t.ghost_name ≡ s.ghost_name → ent 𝓤 (emp 𝓤) (sem 𝓛 (Rests (Ok t)))
  unfolding follows_by such_by
  rests_at_ok t same =
      qed 𝓛 [] ∵ use0 𝓛 (‵ (follows R R s.ghost_name s.ghost_name (λ w. w))) (follows_itself 𝓛 R s.ghost_name) $
      rewrite ! 0 (λ (γ : GName). ‵ (follows R R s.ghost_name γ (λ w. w))) (sym same) refl $
      fpack ! (Ways (Ok t)) (Way (Ok t)) ((λ w. w, s.now), λ w. refl, tt) $ done !

  pub rests_at_err : (e : E) (v : R.Denot) → P v → ent 𝓤 (sem 𝓛 (fobs s.ghost_name (R.coded.code v))) (sem 𝓛 (Rests (Err e)))
  unfolding follows_by such_by
  rests_at_err e v p =
      qed 𝓛 (‵ (fobs s.ghost_name (R.coded.code v)) ∷ []) ∵ use1 𝓛 (‵ (fres s.ghost_name (R.coded.code v)))
      (𝓛.names.obs-res s.ghost_name (R.coded.code v)) $
      fpack ! (Ways (Err e)) (Way (Err e)) ((λ w. w, v), λ w. tt, p) $ done !

-- a `Result` in the machine, made of what it holds
module _ {M : Type 1} {𝓤 : Ura M} (𝓛 : Logic 𝓤) (R E : RattleType) where
  pub ok_of : (x : R.Denot) (v : Val) → ent 𝓤 (sem 𝓛 (R.own_val x (v ∷ [])))
      (sem 𝓛 ((result.the_row R E).own_val (Ok x) (live 0 (of_list (v ∷ [])) ∷ [])))
  ok_of x v =
      qed 𝓛 (‵ (R.own_val x (v ∷ [])) ∷ []) ∵ nothing ! $ move ! (1 ∷ 0 ∷ []) $ fjoin ! $ feq_i ! (List Val) (v ∷ []) (v ∷ []) refl $ fjoin ! $
      fpack ! (Valss (R ∷ [])) (in_a_row (R ∷ []) (owns (R ∷ []) (x, tt)) (v ∷ [])) (v ∷ [], tt) $
      feq_i ! (List Val) (live 0 (of_list (v ∷ [])) ∷ []) (live 0 (of_list (v ∷ [])) ∷ []) refl $ fjoin ! $
      fpack ! (List Val) (tagged_with (form_of (shape (result.the_type R E)))
      (form_of (shape (result.the_type R E))).payload ((result.the_type R E).to (Ok x)) (live 0 (of_list (v ∷ [])) ∷ [])) (v ∷ []) $ done !

  pub err_of : (x : E.Denot) (v : Val) → ent 𝓤 (sem 𝓛 (E.own_val x (v ∷ [])))
      (sem 𝓛 ((result.the_row R E).own_val (Err x) (live 1 (of_list (v ∷ [])) ∷ [])))
  err_of x v =
      qed 𝓛 (‵ (E.own_val x (v ∷ [])) ∷ []) ∵ nothing ! $ move ! (1 ∷ 0 ∷ []) $ fjoin ! $ feq_i ! (List Val) (v ∷ []) (v ∷ []) refl $ fjoin ! $
      fpack ! (Valss (E ∷ [])) (in_a_row (E ∷ []) (owns (E ∷ []) (x, tt)) (v ∷ [])) (v ∷ [], tt) $
      feq_i ! (List Val) (live 1 (of_list (v ∷ [])) ∷ []) (live 1 (of_list (v ∷ [])) ∷ []) refl $ fjoin ! $
      fpack ! (List Val) (tagged_with (form_of (shape (result.the_type R E)))
      (form_of (shape (result.the_type R E))).payload ((result.the_type R E).to (Err x)) (live 1 (of_list (v ∷ [])) ∷ [])) (v ∷ []) $ done !
