-- Cells put behind others.
use Rattle.tabled_value.proofs.Names.{Joined, List, Result, [], ap, append_assoc, refl, subst, sym, ℕ, ◌++◌, ◌∙◌, ◌≡◌}
use Rattle.std.proofs.Common.{OnOk}
use Rattle.std.proofs.lemmas.Result.{on_ok_weaker}
use Rattle.tabled_value.specs.Fields.{CellsAdded}
use Rattle.tabled_value.proofs.Joining.{joined_of}

-- cells behind none are all there are
pub behind_none : {P : List (List ℕ) → Type 0} {before after : List (List ℕ)} → before ≡ [] → CellsAdded P before after → P after
behind_none {P} e h = subst P (sym (h.whole ∙ ap (λ u. u ++ h.texts) e)) h.shown

joined_cells : {P Q : List (List ℕ) → Type 0} {before middle after : List (List ℕ)} → CellsAdded P before middle
    → CellsAdded Q middle after → CellsAdded (Joined P Q) before after
joined_cells {before = before} h k = record {
  texts = h.texts ++ k.texts;
  whole = k.whole ∙ ap (λ u. u ++ k.texts) h.whole ∙ append_assoc before h.texts k.texts;
  shown = joined_of h.texts k.texts refl h.shown k.shown;
}

-- the cells of a last value behind those of others
pub joined_behind : {T E : Type 0} {P : List (List ℕ) → Type 0} {before middle : List (List ℕ)} (Q : List (List ℕ) → Type 0)
    (after : List (List ℕ)) (r : Result T E) → CellsAdded P before middle → OnOk r (CellsAdded Q middle after)
    → OnOk r (CellsAdded (Joined P Q) before after)
joined_behind Q after r h k = on_ok_weaker r (joined_cells h) k
