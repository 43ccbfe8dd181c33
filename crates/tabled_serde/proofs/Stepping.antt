-- One step of the rows of values.
use Rattle.std.proofs.Common.{IfErr, List, MatchOption, None, Ok, Err, Option, Result, Some, [], ap, map, refl, string_bytes, subst, sym, ℕ, ◌∙◌, ◌∷◌, ◌≡◌}
use Rattle.std.specs.List.{AllZip}
use Rattle.std.specs.declared.alloc.Global.{Global}
use Rattle.std.specs.declared.string.String.{String}
use Rattle.std.specs.declared.vec.Vec.{Vec}
use Rattle.serde.specs.Event.{Event}
use Rattle.tabled_serde.specs.Reader.{bytes_of}
use Rattle.tabled_serde.specs.Errors.{IsValueError}
use Rattle.tabled_serde.specs.RowErrors.{IsColumnError, IsRowError, of_columns, of_fields}
use Rattle.tabled_serde.specs.RowSteps.{FailsAt, GivesHeader, GivesRow}
use Rattle.tabled_serde.specs.Rows.{HasFields, IsRowOf}
use Rattle.tabled_serde.specs.declared.error.RowError.{RowError}
use Rattle.tabled_serde.specs.declared.rows.ValueRows.{ValueRows}

pub cloned-bytes : (xs ys : List (String Global)) → AllZip (λ s t. string_bytes t ≡ string_bytes s) xs ys → map string_bytes ys ≡ map string_bytes xs
cloned-bytes [] [] h = refl
cloned-bytes [] (y ∷ ys) h = absurd h
cloned-bytes (x ∷ xs) [] h = absurd h
cloned-bytes (x ∷ xs) (y ∷ ys) h = ap (λ t. t ∷ map string_bytes ys) h.0 ∙ ap (λ ts. string_bytes x ∷ ts) (cloned-bytes xs ys h.1)

module _ {S T : Type 0} (writes : T → Option (List Event) → Option (List Event) → Type 0) (own : T → List ℕ → List ℕ → Type 0) where
  pub header-row : (s t : ValueRows S) (value : T) (row : List (List ℕ)) → s.header ≡ None → GivesHeader writes s value row t → GivesRow writes s value row t
  header-row s t value row known g =
      subst (λ o. MatchOption o (GivesHeader writes s value row t) (λ header. IsRowOf writes s.none.now (bytes_of header) value row × (t ≡ s)))
      (sym known) g

  -- an error of the value itself
  fails_at : (s : ValueRows S) (value : T) (e : RowError) (header : Option (Vec (String Global) Global)) → IsValueError writes own s.none.now value e
      → MatchOption header (IsValueError writes own s.none.now value e) (λ header. IsRowError writes own s.none.now (bytes_of header) value e)
  fails_at s value e None h = h
  fails_at s value e (Some header) h = of_fields e h

  pub value-fails : (s : ValueRows S) (value : T) (e : RowError) → IsValueError writes own s.none.now value e → FailsAt writes own s value e
  value-fails s value e h = fails_at s value e s.header h

  pub passed-on : {A : Type 0} (s : ValueRows S) (value : T) (r : Result A RowError) (e : RowError) → IfErr r (IsValueError writes own s.none.now value)
      → r ≡ Err e → FailsAt writes own s value e
  passed-on s value r e h is = value-fails s value e (subst (λ r. IfErr r (IsValueError writes own s.none.now value)) is h)

  -- a field of a later value has no column
  pub columns-fail : (s : ValueRows S) (value : T) (header : Vec (String Global) Global) (names cells : List (List ℕ)) (r : Result (Vec (String Global) Global) RowError)
      → s.header ≡ Some header → HasFields writes s.none.now value names cells → IfErr r (IsColumnError (bytes_of header) names)
      → IfErr r (FailsAt writes own s value)
  columns-fail s value header names cells (Ok row) known fields h = tt
  columns-fail s value header names cells (Err e) known fields h =
      subst (λ o. MatchOption o (IsValueError writes own s.none.now value e) (λ header. IsRowError writes own s.none.now (bytes_of header) value e)) (sym known)
      (of_columns names cells e fields h)
