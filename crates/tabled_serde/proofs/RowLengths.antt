-- The rows of values are as long as their header.
use Rattle.std.proofs.Common.{List, Option, [], ap, append-nil, arith, length, map, refl, replicate, sym, ℕ, ◌++◌, ◌-◌, ◌∙◌, ◌∷◌, ◌≡◌, ◌≤◌}
use Rattle.std.specs.List.{AllZip}
use Rattle.serde.specs.Event.{Event}
use Rattle.tabled_base.specs.Cells.{lengthened, lengthened_rows, longest}
use Rattle.tabled_serde.proofs.Counting.{fields-as_many}
use Rattle.tabled_serde.specs.Rows.{AreRows, IsPlaced, IsRowOf, no_more, with_cell, with_empty}

placed-long : {header names cells row : List (List ℕ)} → IsPlaced header names cells row → length row ≡ length header
placed-long no_more = refl
placed-long (with_cell header names cells row name cell placed) = omega (arith, placed-long placed)
placed-long (with_empty header names cells row name other placed) = omega (arith, placed-long placed)

abbrev AreLong : ℕ → List (List (List ℕ)) → Type 0
AreLong n [] = Unit {0}
AreLong n (row ∷ rows) = (length row ≡ n) × AreLong n rows

lengthened-same : (n : ℕ) (row : List (List ℕ)) → length row ≡ n → lengthened n row ≡ row
lengthened-same n row long =
    let none : n - length row ≡ 0 = omega arith in
    ap (λ k. row ++ replicate k []) none ∙ append-nil row

lengthened-all : (n : ℕ) (rows : List (List (List ℕ))) → AreLong n rows → map (lengthened n) rows ≡ rows
lengthened-all n [] h = refl
lengthened-all n (row ∷ rows) h =
    ap (λ r. r ∷ map (lengthened n) rows) (lengthened-same n row h.0) ∙ ap (λ rs. row ∷ rs) (lengthened-all n rows h.1)

longest-le : (n : ℕ) (rows : List (List (List ℕ))) → AreLong n rows → longest rows ≤ n
longest-le n [] h = omega arith
longest-le n (row ∷ rows) h = omega (arith, h.0, longest-le n rows h.1)

equal-stay : (n : ℕ) (row : List (List ℕ)) (rows : List (List (List ℕ))) → length row ≡ n → AreLong n rows → lengthened_rows (row ∷ rows) ≡ row ∷ rows
equal-stay n row rows long h =
    let most : longest (row ∷ rows) ≡ n = omega (arith, longest-le n rows h) in
    ap (λ k. map (lengthened k) (row ∷ rows)) most ∙ lengthened-all n (row ∷ rows) (long, h)

module _ {T : Type 0} (writes : T → Option (List Event) → Option (List Event) → Type 0) (none : List ℕ) where
  later-long : (names : List (List ℕ)) (values : List T) (rows : List (List (List ℕ))) → AllZip (IsRowOf writes none names) values rows
      → AreLong (length names) rows
  later-long names [] [] h = tt
  later-long names [] (row ∷ rows) h = absurd h
  later-long names (value ∷ values) [] h = absurd h
  later-long names (value ∷ values) (row ∷ rows) h = (placed-long h.0.below, later-long names values rows h.1)

  -- so a builder fills up none
  pub rows-stay : (values : List T) (rows : List (List (List ℕ))) → AreRows writes none values rows → lengthened_rows rows ≡ rows
  rows-stay [] rows h = ap lengthened_rows h ∙ sym h
  rows-stay (value ∷ values) rows h =
      let same = equal-stay (length h.0) h.0 (h.1 ∷ h.2) refl (sym (fields-as_many h.3.fields.fields), later-long h.0 values h.2 h.4) in
      ap lengthened_rows h.5 ∙ same ∙ sym h.5
