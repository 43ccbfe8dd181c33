-- What a call answers that is refused for memory or with `Range`, as the machine holds it.
use Rattle.tabled_base.proofs.Names.{Err, List, Logic, Memory, Ok, Result, TableError, Ura, Val, Valss, [], ap, done, emp, ent, fact}
use Rattle.tabled_base.proofs.Names.{fact_i, feq_i, fjoin, form_of, fpack, fsplit, in_a_row, inl, inr, keep, live, !, nothing, of_list}
use Rattle.tabled_base.proofs.Names.{owns, qed, raw, refl, sem, shape, subst, sym, tagged_with, unit, use0, vnil, vunit, ‵, ℕ, ◌$◌, ◌++◌}
use Rattle.tabled_base.proofs.Names.{◌∙◌, ◌∵◌, ◌∷◌, ◌≡◌}
use Rattle.std.proofs.Common.{◌⊎◌}
use types.Kit.{Sq, Goal, Item, fpick, feq_l}
use denote.Steps.{only}
use denote.Struct.Members.{Lone}
use Rattle.std.specs.contracts.result.Result as result
use Rattle.tabled_base.specs.contracts.error.TableError as error
use Rattle.tabled_base.specs.contracts.error.TableError.{the_row as TE}
use Rattle.tabled_base.specs.declared.error.TableError.TheVariants.{Range}

abbrev pub Done : Type 0
Done = Result (Unit {0}) TableError

-- the causes
abbrev pub IsCause : TableError → Type 0
IsCause e = (e ≡ Memory) ⊎ (e ≡ Range)

-- a cause in the machine, and an answer of one
abbrev pub cause : (e : TableError) → IsCause e → Val
cause e (inl m) = live 0 vnil
cause e (inr r) = live 4 vnil

abbrev pub accepted : Val
accepted = live 0 (of_list (vunit ∷ []))

abbrev pub refused : (e : TableError) → IsCause e → Val
refused e h = live 1 (of_list (cause e h ∷ []))

module _ {M : Type 1} {𝓤 : Ura M} (𝓛 : Logic 𝓤) (w : Val) where
  pub told_ok : ent 𝓤 (sem 𝓛 ((result.the_row unit TE).own_val (Ok tt) (w ∷ []))) (fact 𝓤 (w ≡ accepted))
  told_ok =
      qed 𝓛 (‵ ((result.the_row unit TE).own_val (Ok tt) (w ∷ [])) ∷ []) ∵
      fpick ! (λ us. fsplit ! $ feq_l ! (λ e. fpick ! (λ vss. fsplit ! $ feq_l ! (λ h. fsplit ! $ feq_l ! (λ k.
      let is : w ≡ accepted = ap only e ∙ ap (λ (ws : List Val). live 0 (of_list ws)) h ∙ ap (λ (ws : List Val). live 0 (of_list (ws ++ []))) k in
      use0 𝓛 (raw (fact 𝓤 (w ≡ accepted))) (fact_i 𝓤 (w ≡ accepted) (emp 𝓤) is) $ keep ! (0 ∷ []) $ done !)))))

  told_memory : ent 𝓤 (sem 𝓛 ((result.the_row unit TE).own_val (Err Memory) (w ∷ []))) (fact 𝓤 (w ≡ refused Memory (inl refl)))
  told_memory =
      qed 𝓛 (‵ ((result.the_row unit TE).own_val (Err Memory) (w ∷ [])) ∷ []) ∵
      fpick ! (λ us. fsplit ! $ feq_l ! (λ e. fpick ! (λ vss. fsplit ! $ feq_l ! (λ h. fsplit ! $
      fpick ! (λ us'. fsplit ! $ feq_l ! (λ e'. fpick ! (λ vss'. fsplit ! $ feq_l ! (λ h'.
      let is : w ≡ refused Memory (inl refl) =
      ap only e ∙ ap (λ (ws : List Val). live 1 (of_list ws)) h
      ∙ ap (λ (ws : List Val). live 1 (of_list (ws ++ []))) (e' ∙ ap (λ (ws : List Val). live 0 (of_list ws) ∷ []) h') in
      use0 𝓛 (raw (fact 𝓤 (w ≡ refused Memory (inl refl)))) (fact_i 𝓤 (w ≡ refused Memory (inl refl)) (emp 𝓤) is) $ keep ! (0 ∷ []) $ done !))))))))

  told_range : ent 𝓤 (sem 𝓛 ((result.the_row unit TE).own_val (Err Range) (w ∷ []))) (fact 𝓤 (w ≡ refused Range (inr refl)))
  told_range =
      qed 𝓛 (‵ ((result.the_row unit TE).own_val (Err Range) (w ∷ [])) ∷ []) ∵
      fpick ! (λ us. fsplit ! $ feq_l ! (λ e. fpick ! (λ vss. fsplit ! $ feq_l ! (λ h. fsplit ! $
      fpick ! (λ us'. fsplit ! $ feq_l ! (λ e'. fpick ! (λ vss'. fsplit ! $ feq_l ! (λ h'.
      let is : w ≡ refused Range (inr refl) =
      ap only e ∙ ap (λ (ws : List Val). live 1 (of_list ws)) h
      ∙ ap (λ (ws : List Val). live 1 (of_list (ws ++ []))) (e' ∙ ap (λ (ws : List Val). live 4 (of_list ws) ∷ []) h') in
      use0 𝓛 (raw (fact 𝓤 (w ≡ refused Range (inr refl)))) (fact_i 𝓤 (w ≡ refused Range (inr refl)) (emp 𝓤) is) $ keep ! (0 ∷ []) $ done !))))))))

  pub told_err : (e : TableError) (h : IsCause e) → ent 𝓤 (sem 𝓛 ((result.the_row unit TE).own_val (Err e) (w ∷ []))) (fact 𝓤 (w ≡ refused e h))
  told_err e (inl m) = subst (λ (x : TableError). ent 𝓤 (sem 𝓛 ((result.the_row unit TE).own_val (Err x) (w ∷ [])))
      (fact 𝓤 (w ≡ refused e (inl m)))) (sym m) told_memory
  told_err e (inr r) = subst (λ (x : TableError). ent 𝓤 (sem 𝓛 ((result.the_row unit TE).own_val (Err x) (w ∷ [])))
      (fact 𝓤 (w ≡ refused e (inr r)))) (sym r) told_range

module _ {M : Type 1} {𝓤 : Ura M} (𝓛 : Logic 𝓤) where
  memory_made : ent 𝓤 (emp 𝓤) (sem 𝓛 (TE.own_val Memory (live 0 vnil ∷ [])))
  memory_made =
      qed 𝓛 [] ∵ nothing ! $ feq_i ! (List Val) [] [] refl $ fjoin ! $ fpack ! (Valss []) (in_a_row [] (owns [] tt) []) tt $
      feq_i ! (List Val) (live 0 (of_list []) ∷ []) (live 0 (of_list []) ∷ []) refl $ fjoin ! $
      fpack ! (List Val) (tagged_with (form_of (shape error.the_type)) (form_of (shape error.the_type)).payload
      (error.the_type.to Memory) (live 0 (of_list []) ∷ [])) [] $ done !

  range_made : ent 𝓤 (emp 𝓤) (sem 𝓛 (TE.own_val Range (live 4 vnil ∷ [])))
  range_made =
      qed 𝓛 [] ∵ nothing ! $ feq_i ! (List Val) [] [] refl $ fjoin ! $ fpack ! (Valss []) (in_a_row [] (owns [] tt) []) tt $
      feq_i ! (List Val) (live 4 (of_list []) ∷ []) (live 4 (of_list []) ∷ []) refl $ fjoin ! $
      fpack ! (List Val) (tagged_with (form_of (shape error.the_type)) (form_of (shape error.the_type)).payload
      (error.the_type.to Range) (live 4 (of_list []) ∷ [])) [] $ done !

  pub cause_made : (e : TableError) (h : IsCause e) → ent 𝓤 (emp 𝓤) (sem 𝓛 (TE.own_val e (cause e h ∷ [])))
  cause_made e (inl m) = subst (λ (x : TableError). ent 𝓤 (emp 𝓤) (sem 𝓛 (TE.own_val x (live 0 vnil ∷ [])))) (sym m) memory_made
  cause_made e (inr r) = subst (λ (x : TableError). ent 𝓤 (emp 𝓤) (sem 𝓛 (TE.own_val x (live 4 vnil ∷ [])))) (sym r) range_made

-- a parameter's value in the machine is one
pub single : (vs : List Val) → Lone vs → (v : Val) × (vs ≡ v ∷ [])
single [] l = absurd l
single (v ∷ []) l = (v, refl)
single (v ∷ u ∷ us) l = absurd l

-- the two answers are told apart
pub apart : ◌≡◌ {A = ℕ} 0 1 → ⊥
apart e = cc

-- a walk goes on by what was answered
pub by_done : {M : Type 1} {𝓤 : Ura M} {𝓛 : Logic 𝓤} {Γ : List (Item 𝓤)} {G : Goal 𝓤 𝓛.H} (t : Done)
    → (t ≡ Ok tt → Sq 𝓛 Γ G) → ((e : TableError) → t ≡ Err e → Sq 𝓛 Γ G) → Sq 𝓛 Γ G
by_done (Ok u) ok err = ok refl
by_done (Err e) ok err = err e refl
