-- Rows that are collected or escaped one after another, and the first of them.
use Rattle.tabled_extended.proofs.Names.{AllZip, Global, List, Vec, [], all_zipped_more, ap, map, map-append, row_texts}
use Rattle.tabled_extended.proofs.Names.{sym, ℕ, ◌++◌, ◌∙◌, ◌∷◌, ◌≡◌, arith, drop, length, map-id, refl, ◌<◌}
use Rattle.std.proofs.Common.{slice_index_or}
use Rattle.std.specs.Prelude.{remove}

row_texts-push : (rows : List (Vec (List ℕ) Global)) (row : Vec (List ℕ) Global) → row_texts (rows ++ row ∷ []) ≡ row_texts rows ++ row.items ∷ []
row_texts-push rows row =
    map-append (λ (r : Vec (List ℕ) Global). map (λ t. t) r.items) rows (row ∷ [])
    ∙ ap (λ items. row_texts rows ++ items ∷ []) (map-id row.items)

-- a made row stands for each value so far, with its texts
pub record Made {V S : Type 0} (is : V → S → Type 0) (texts : S → List (List ℕ)) (values : List V) (all : List (List (List ℕ))) : Type 0 where
  pub rows : List S
  pub each : AllZip is values rows
  pub whole : all ≡ map texts rows

pub made-more : {V S : Type 0} {is : V → S → Type 0} {texts : S → List (List ℕ)} {values : List V} {value : V} {item : S}
    (rows new : List (Vec (List ℕ) Global)) (row : Vec (List ℕ) Global) → Made is texts values (row_texts rows) → new ≡ rows ++ row ∷ []
    → is value item → row.items ≡ texts item → Made is texts (values ++ value ∷ []) (row_texts new)
made-more {is = is} {texts = texts} {values = values} {value = value} {item = item} rows new row h e r t = record {
  rows = h.rows ++ item ∷ [];
  each = all_zipped_more is values h.rows value item h.each r;
  whole =
      ap row_texts e ∙ row_texts-push rows row ∙ ap (λ u. u ++ row.items ∷ []) h.whole
      ∙ ap (λ (t' : List (List ℕ)). map texts h.rows ++ t' ∷ []) t
      ∙ sym (map-append texts h.rows (item ∷ []));
}

pub first_removed : (rows : List (Vec (List ℕ) Global)) (first : Vec (List ℕ) Global) → 0 < length rows
    → first ≡ slice_index_or rows 0 first → first.items ≡ slice_index_or (row_texts rows) 0 []
first_removed [] first h e = absurd (omega arith)
first_removed (row ∷ rows) first h e = ap (λ (r : Vec (List ℕ) Global). r.items) e ∙ sym (map-id row.items)

pub further_removed : (rows left : List (Vec (List ℕ) Global)) → 0 < length rows → left ≡ remove rows 0
    → row_texts left ≡ drop 1 (row_texts rows)
further_removed [] left h e = absurd (omega arith)
further_removed (row ∷ rows) left h e = ap row_texts e

pub first_of_none : (rows : List (Vec (List ℕ) Global)) → length rows ≡ 0 → slice_index_or (row_texts rows) 0 [] ≡ []
first_of_none [] e = refl
first_of_none (row ∷ rows) e = absurd (omega arith)

pub further_of_none : (rows : List (Vec (List ℕ) Global)) → length rows ≡ 0 → row_texts rows ≡ drop 1 (row_texts rows)
further_of_none [] e = refl
further_of_none (row ∷ rows) e = absurd (omega arith)
