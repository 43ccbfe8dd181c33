-- Rows that a builder collects.
use Rattle.tabled_base.proofs.Names.{AllZip, Given, List, Option, [], ap, lengthened_rows, map, map-append, sym, with_record, ℕ, ◌++◌, ◌∙◌}
use Rattle.tabled_base.proofs.Names.{◌∷◌, ◌≡◌}
use Rattle.std.proofs.lemmas.Slice.Zip.{all_zipped_more}
use Rattle.tabled_base.proofs.LengthenedRows.{lengthened_rows-more}

-- the cells of the lists so far are the rows, the short ones lengthened
pub record Collected {W T A : Type 0} (becomes : W → T → Type 0) (steps : T → Option A → T → Type 0)
    (text : A → List ℕ) (lists : List W) (rows : List (List (List ℕ))) : Type 0 where
  pub cells : List (List A)
  pub each : AllZip (Given becomes steps) lists cells
  pub texts : rows ≡ lengthened_rows (map (map text) cells)

pub collected-more : {W T A : Type 0} {becomes : W → T → Type 0} {steps : T → Option A → T → Type 0}
    {text : A → List ℕ} {lists : List W} {rows new : List (List (List ℕ))} {list : W} {items : List A}
    → Collected becomes steps text lists rows → Given becomes steps list items → new
    ≡ with_record rows (map text items) → Collected becomes steps text (lists ++ list ∷ []) new
collected-more {becomes = becomes} {steps = steps} {text = text} {lists = lists} {list = list} {items = items} so_far given came = record {
  cells = so_far.cells ++ items ∷ [];
  each = all_zipped_more (Given becomes steps) lists so_far.cells list items so_far.each given;
  texts =
      came ∙ ap (λ r. with_record r (map text items)) so_far.texts ∙ lengthened_rows-more (map (map text) so_far.cells) (map text items)
      ∙ ap lengthened_rows (sym (map-append (map text) so_far.cells (items ∷ [])));
}
