-- The rows that values gave so far, and those of all.
use Rattle.std.proofs.Common.{Err, OnOk, false, is_err, IsSomeAnd, List, MatchOption, None, Ok, Option, Result, Some, [], ap, map, refl, string_bytes, subst, sym, ℕ, ◌++◌, ◌∙◌, ◌∷◌, ◌≡◌, append-nil, Bor, Iter}
use Rattle.std.proofs.iter.Next.{Yields-more}
use Rattle.std.proofs.lemmas.List.{nil_from_length}
use Rattle.std.proofs.lemmas.Slice.Zip.{all_zipped_more}
use Rattle.std.specs.Iterator.{Drains, Yields}
use Rattle.std.specs.List.{All, AllZip}
use Rattle.std.specs.Str.{IsUtf8}
use Rattle.std.specs.Slice.Iter.{iter_rest, iter_steps}
use Rattle.std.specs.declared.alloc.Global.{Global}
use Rattle.std.specs.declared.string.String.{String}
use Rattle.std.specs.declared.vec.Vec.{Vec}
use Rattle.serde.specs.Event.{Event}
use Rattle.tabled_base.proofs.LengthenedRows.{lengthened_rows-more}
use Rattle.tabled_base.specs.Cells.{lengthened_rows, with_record}
use Rattle.tabled_serde.specs.Reader.{bytes_of}
use Rattle.tabled_serde.specs.Errors.{IsValueError}
use Rattle.tabled_serde.specs.RowErrors.{FailsAfter, IsRowError, IsSourceError, ValueSource, at_value}
use Rattle.tabled_serde.specs.RowSteps.{GivesHeader, TakesValue, row_steps}
use Rattle.tabled_serde.specs.Rows.{AreRows, HasFields, IsRowOf}
use Rattle.tabled_serde.specs.declared.error.RowError.{RowError}
use Rattle.tabled_serde.specs.declared.rows.ValueRows.{ValueRows}

-- the texts of the items of a row
yielded-rest : {A : Type 0} (items : List (Bor A)) (s t : Iter A) → Yields iter_steps s items t → iter_rest s ≡ map (λ x. x.now) items ++ iter_rest t
yielded-rest [] s t h = ap iter_rest h
yielded-rest (x ∷ items) s t h = h.1 ∙ ap (λ l. x.now ∷ l) (yielded-rest items h.0 t h.2)

map-now : (items : List (Bor (String Global))) → map (λ x. string_bytes x.now) items ≡ map string_bytes (map (λ x. x.now) items)
map-now [] = refl
map-now (x ∷ items) = ap (λ l. string_bytes x.now ∷ l) (map-now items)

pub row-texts : (row : Vec (String Global) Global) (it : Iter (String Global)) (items : List (Bor (String Global))) → iter_rest it ≡ row.items
    → Drains iter_steps it items → map (λ x. string_bytes x.now) items ≡ bytes_of row
row-texts row it items made h =
    map-now items
    ∙ ap (map string_bytes)
    (sym (append-nil (map (λ x. x.now) items))
    ∙ ap (λ l. map (λ x. x.now) items ++ l) (sym (nil_from_length (iter_rest h.1.0) h.1.2.0))
    ∙ sym (yielded-rest items it h.1.0 h.1.1) ∙ made)

module _ {S T : Type 0} (steps : S → Option T → S → Type 0) (writes : T → Option (List Event) → Option (List Event) → Type 0)
    (own : T → List ℕ → List ℕ → Type 0) (none : List ℕ) where
  -- the rows of the values so far
  abbrev pub RowsGiven : List T → List (List (List ℕ)) → Option (Vec (String Global) Global) → Option (Vec (String Global) Global) → Type 0
  RowsGiven items rows None first = (items ≡ []) × (rows ≡ []) × (first ≡ None)
  RowsGiven items rows (Some header) (Some first) =
      (value : T) × (items ≡ value ∷ []) × (rows ≡ bytes_of header ∷ []) × HasFields writes none value (bytes_of header) (bytes_of first)
  RowsGiven items rows (Some header) None = (value : T) × (values : List T) × (cells : List (List ℕ)) × (later : List (List (List ℕ)))
      × (items ≡ value ∷ values) × (rows ≡ bytes_of header ∷ cells ∷ later) × HasFields writes none value (bytes_of header) cells
      × AllZip (IsRowOf writes none (bytes_of header)) values later

  pub record SoFar (start : S) (s : ValueRows S) (built : List (List (List ℕ))) : Type 0 where
    pub items : List T
    pub rows : List (List (List ℕ))
    pub yielded : Yields steps start items s.values
    pub none_is : s.none.now ≡ none
    pub given : RowsGiven items rows s.header s.first
    pub built_are : built ≡ lengthened_rows rows

  pub none-given : (start : S) (s : ValueRows S) (built : List (List (List ℕ))) → start ≡ s.values → s.none.now ≡ none → s.header ≡ None → s.first ≡ None
      → built ≡ [] → SoFar start s built
  none-given start s built same text no_header no_first empty = record {
    items = [];
    rows = [];
    yielded = same;
    none_is = text;
    given = subst (λ h. RowsGiven [] [] h s.first) (sym no_header) (refl, refl, no_first);
    built_are = empty;
  }

  one_more : (rows : List (List (List ℕ))) (row : List (List ℕ)) (old new : List (List (List ℕ))) → old ≡ lengthened_rows rows → new ≡ with_record old row
      → new ≡ lengthened_rows (rows ++ row ∷ [])
  one_more rows row old new h k = k ∙ ap (λ r. with_record r row) h ∙ lengthened_rows-more rows row

  -- the cells of the first value
  first-given : (start : S) (s t : ValueRows S) (header row : Vec (String Global) Global) (items : List T) (rows old new : List (List (List ℕ)))
      → Yields steps start items s.values → s.none.now ≡ none → s.header ≡ Some header → RowsGiven items rows (Some header) (Some row)
      → old ≡ lengthened_rows rows → t ≡ record s { first = None } → new ≡ with_record old (bytes_of row) → SoFar start t new
  first-given start s t header row items rows old new yielded text known g h same more = record {
    items = items;
    rows = rows ++ bytes_of row ∷ [];
    yielded = subst (λ v. Yields steps start items v) (sym (ap (λ r. r.values) same)) yielded;
    none_is = ap (λ r. r.none.now) same ∙ text;
    given =
        subst (λ r. RowsGiven items (rows ++ bytes_of row ∷ []) r.header r.first) (sym same)
        (subst (λ o. RowsGiven items (rows ++ bytes_of row ∷ []) o None) (sym known)
        (g.0, [], bytes_of row, [], g.1, ap (λ r. r ++ bytes_of row ∷ []) g.2, g.3, tt));
    built_are = one_more rows (bytes_of row) old new h more;
  }

  -- the row of a later value
  later-given : (start rest : S) (s t : ValueRows S) (header row : Vec (String Global) Global) (value : T) (items : List T) (rows old new : List (List (List ℕ)))
      → Yields steps start items s.values → s.none.now ≡ none → s.header ≡ Some header → s.first ≡ None → RowsGiven items rows (Some header) None
      → old ≡ lengthened_rows rows → steps s.values (Some value) rest → IsRowOf writes s.none.now (bytes_of header) value (bytes_of row)
      → t ≡ record s { values = rest } → new ≡ with_record old (bytes_of row) → SoFar start t new
  later-given start rest s t header row value items rows old new yielded text known gone g h came below same more = record {
    items = items ++ value ∷ [];
    rows = rows ++ bytes_of row ∷ [];
    yielded =
        subst (λ v. Yields steps start (items ++ value ∷ []) v) (sym (ap (λ r. r.values) same))
        (Yields-more steps start items s.values value rest yielded came);
    none_is = ap (λ r. r.none.now) same ∙ text;
    given =
        subst (λ r. RowsGiven (items ++ value ∷ []) (rows ++ bytes_of row ∷ []) r.header r.first) (sym same)
        (subst (λ o. RowsGiven (items ++ value ∷ []) (rows ++ bytes_of row ∷ []) o s.first) (sym known)
        (subst (λ o. RowsGiven (items ++ value ∷ []) (rows ++ bytes_of row ∷ []) (Some header) o) (sym gone) (
          g.0,
          g.1 ++ value ∷ [],
          g.2,
          g.3 ++ bytes_of row ∷ [],
          ap (λ i. i ++ value ∷ []) g.4,
          ap (λ r. r ++ bytes_of row ∷ []) g.5,
          g.6,
          all_zipped_more (IsRowOf writes none (bytes_of header)) g.1 g.3 value (bytes_of row) g.7
              (subst (λ n. IsRowOf writes n (bytes_of header) value (bytes_of row)) text below),
        )));
    built_are = one_more rows (bytes_of row) old new h more;
  }

  -- the header
  header-given : (start rest : S) (s t : ValueRows S) (value : T) (row : List (List ℕ)) (items : List T) (rows old new : List (List (List ℕ)))
      → Yields steps start items s.values → s.none.now ≡ none → (items ≡ []) → (rows ≡ [])
      → old ≡ lengthened_rows rows → steps s.values (Some value) rest → (g : GivesHeader writes (record s { values = rest }) value row t)
      → (header first : Option (Vec (String Global) Global)) → t.header ≡ header → t.first ≡ first
      → IsSomeAnd header (λ h. bytes_of h ≡ g.names) → IsSomeAnd first (λ f. bytes_of f ≡ g.cells)
      → new ≡ with_record old row → SoFar start t new
  header-given start rest s t value row items rows old new yielded text no_items no_rows h came g None first known kept a b more = absurd a
  header-given start rest s t value row items rows old new yielded text no_items no_rows h came g (Some header) None known kept a b more = absurd b
  header-given start rest s t value row items rows old new yielded text no_items no_rows h came g (Some header) (Some first) known kept a b more = record {
    items = items ++ value ∷ [];
    rows = rows ++ row ∷ [];
    yielded =
        subst (λ v. Yields steps start (items ++ value ∷ []) v) (sym (ap (λ r. r.values) g.same))
        (Yields-more steps start items s.values value rest yielded came);
    none_is = ap (λ r. r.none.now) g.same ∙ text;
    given =
        subst (λ o. RowsGiven (items ++ value ∷ []) (rows ++ row ∷ []) o t.first) (sym known)
        (subst (λ o. RowsGiven (items ++ value ∷ []) (rows ++ row ∷ []) (Some header) o) (sym kept) (
          value,
          ap (λ i. i ++ value ∷ []) no_items,
          ap (λ r. r ++ row ∷ []) no_rows ∙ ap (λ r. r ∷ []) (g.row_is ∙ sym a),
          subst (λ n. HasFields writes n value (bytes_of header) (bytes_of first)) text
              (subst (λ n. HasFields writes s.none.now value n (bytes_of first)) (sym a)
              (subst (λ c. HasFields writes s.none.now value g.names c) (sym b) g.fields)),
        ));
    built_are = one_more rows row old new h more;
  }

  taken : (start : S) (s t : ValueRows S) (row : Vec (String Global) Global) (old new : List (List (List ℕ))) (header first : Option (Vec (String Global) Global))
      → (so_far : SoFar start s old) → s.header ≡ header → s.first ≡ first → RowsGiven so_far.items so_far.rows header first
      → MatchOption first (TakesValue steps writes own s (Ok row) t)
      (λ cells. (◌≡◌ {A = Option (Result (Vec (String Global) Global) RowError)} (Some (Ok row)) (Some (Ok cells))) × (t ≡ record s { first = None }))
      → new ≡ with_record old (bytes_of row) → SoFar start t new
  taken start s t row old new None (Some first) so_far known kept g h more = absurd (cc g.2)
  taken start s t row old new (Some header) (Some first) so_far known kept g h more =
      let same : row ≡ first = cc h.0 in
      first-given start s t header first so_far.items so_far.rows old new so_far.yielded so_far.none_is known g so_far.built_are h.1
      (more ∙ ap (λ r. with_record old (bytes_of r)) same)
  taken start s t row old new None None so_far known kept g h more =
      let gives = subst (λ o. MatchOption o (GivesHeader writes (record s { values = h.rest }) h.value (bytes_of row) t)
      (λ header. IsRowOf writes s.none.now (bytes_of header) h.value (bytes_of row) × (t ≡ record s { values = h.rest }))) known h.gives in
      header-given start h.rest s t h.value (bytes_of row) so_far.items so_far.rows old new so_far.yielded so_far.none_is g.0 g.1 so_far.built_are
      h.came gives t.header t.first refl refl gives.header_kept gives.first_kept more
  taken start s t row old new (Some header) None so_far known kept g h more =
      let gives = subst (λ o. MatchOption o (GivesHeader writes (record s { values = h.rest }) h.value (bytes_of row) t)
      (λ header. IsRowOf writes s.none.now (bytes_of header) h.value (bytes_of row) × (t ≡ record s { values = h.rest }))) known h.gives in
      later-given start h.rest s t header row h.value so_far.items so_far.rows old new so_far.yielded so_far.none_is known kept g so_far.built_are
      h.came gives.0 gives.1 more

  pub row-given : (start : S) (s t : ValueRows S) (row : Vec (String Global) Global) (old new : List (List (List ℕ))) → SoFar start s old
      → row_steps steps writes own s (Some (Ok row)) t → new ≡ with_record old (bytes_of row) → SoFar start t new
  row-given start s t row old new so_far h more = taken start s t row old new s.header s.first so_far refl refl so_far.given h more

  -- all rows are given once the values have ended
  ended : (start : S) (s t : ValueRows S) (built : List (List (List ℕ))) (header first : Option (Vec (String Global) Global))
      → (so_far : SoFar start s built) → RowsGiven so_far.items so_far.rows header first
      → MatchOption first (steps s.values None t.values × (t ≡ record s { values = t.values }))
      (λ cells. (◌≡◌ {A = Option (Result (Vec (String Global) Global) RowError)} None (Some (Ok cells))) × (t ≡ record s { first = None }))
      → Drains steps start so_far.items × AreRows writes none so_far.items so_far.rows
  ended start s t built header (Some first) so_far g h = absurd (cc h.0)
  ended start s t built None None so_far g h =
      ((t.values, (s.values, so_far.yielded, h.0)), subst (λ i. AreRows writes none i so_far.rows) (sym g.0) g.1)
  ended start s t built (Some header) None so_far g h = (
    (t.values, (s.values, so_far.yielded, h.0)),
    subst (λ i. AreRows writes none i so_far.rows) (sym g.4) (bytes_of header, g.2, g.3, g.6, g.7, g.5),
  )

  pub all-given : (start : S) (s t : ValueRows S) (built : List (List (List ℕ))) → (so_far : SoFar start s built) → row_steps steps writes own s None t
      → Drains steps start so_far.items × AreRows writes none so_far.items so_far.rows
  all-given start s t built so_far h = ended start s t built s.header s.first so_far so_far.given h

  -- a source of these values
  abbrev pub source_of : {U : Type 0} → (U → S → Type 0) → U → ValueSource U S T
  source_of becomes source = record { source = source; becomes = becomes; steps = steps; writes = writes; own = own; none = none }

  -- the value that fails, after those that have rows
  fails-next : {U : Type 0} (becomes : U → S → Type 0) (source : U)
      (items : List T) (rows : List (List (List ℕ))) (value : T) (e : RowError) (header : Option (Vec (String Global) Global))
      → RowsGiven items rows header None
      → MatchOption header (IsValueError writes own none value e) (λ header. IsRowError writes own none (bytes_of header) value e)
      → FailsAfter (source_of becomes source) items value e
  fails-next becomes source items rows value e None g h = subst (λ i. FailsAfter (source_of becomes source) i value e) (sym g.0) h
  fails-next becomes source items rows value e (Some header) g h =
      subst (λ i. FailsAfter (source_of becomes source) i value e) (sym g.4) (bytes_of header, g.2, g.3, g.6, g.7, h)

  failed_at : {U : Type 0} (becomes : U → S → Type 0) (source : U)
      (start : S) (s t : ValueRows S) (e : RowError) (built : List (List (List ℕ))) (first : Option (Vec (String Global) Global))
      → (so_far : SoFar start s built) → RowsGiven so_far.items so_far.rows s.header first
      → MatchOption first (TakesValue steps writes own s (Err e) t)
      (λ cells. (◌≡◌ {A = Option (Result (Vec (String Global) Global) RowError)} (Some (Err e)) (Some (Ok cells))) × (t ≡ record s { first = None }))
      → (items : List T) × (value : T) × (rest : S) × Yields steps start items s.values × steps s.values (Some value) rest
      × FailsAfter (source_of becomes source) items value e
  failed_at becomes source start s t e built (Some first) so_far g h = absurd (cc h.0)
  failed_at becomes source start s t e built None so_far g h = (
    so_far.items,
    h.value,
    h.rest,
    so_far.yielded,
    h.came,
    fails-next becomes source so_far.items so_far.rows h.value e s.header g
        (subst (λ n. MatchOption s.header (IsValueError writes own n h.value e) (λ header. IsRowError writes own n (bytes_of header) h.value e))
        so_far.none_is h.gives.1),
  )

  pub at-failure : {U : Type 0} (becomes : U → S → Type 0) (source : U) (start : S) (s t : ValueRows S) (e : RowError) (built : List (List (List ℕ)))
      → becomes source start → SoFar start s built → row_steps steps writes own s (Some (Err e)) t
      → IsSourceError (source_of becomes source) e
  at-failure becomes source start s t e built made so_far h =
      let found = failed_at becomes source start s t e built s.first so_far so_far.given h in
      at_value e (record {
        start = start;
        reached = s.values;
        rest = found.2;
        values = found.0;
        value = found.1;
        made = made;
        yielded = found.3;
        next = found.4;
        fails = found.5;
      })

-- the same, where the values are those of an iterable
pub record Started {U S T : Type 0} (becomes : U → S → Type 0) (steps : S → Option T → S → Type 0)
    (writes : T → Option (List Event) → Option (List Event) → Type 0) (own : T → List ℕ → List ℕ → Type 0)
    (none : List ℕ) (values : U) (s : ValueRows S) (built : List (List (List ℕ))) : Type 0 where
  pub start : S
  pub made : becomes values start
  pub so_far : SoFar steps writes own none start s built
  pub texts : All (All IsUtf8) built

-- what holds on success, where it didn't fail
pub on-success : {A E : Type 0} {P : Type 0} (r : Result A E) → is_err r ≡ false → OnOk r P → P
on-success (Ok x) fine h = h
on-success (Err e) fine h = absurd (cc fine)
