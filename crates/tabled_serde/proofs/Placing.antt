-- Cells that are placed below names.
use Rattle.std.proofs.Common.{List, [], ap, append-nil, append_assoc, arith, length, length-append, map, string_bytes, subst, sym, take, get_or, ℕ, ◌+◌, ◌<◌, ◌++◌, ◌∙◌, ◌∷◌, ◌≡◌, ◌≢◌}
use Rattle.std.proofs.lemmas.List.{length-map, map-append, nil_from_length, take_more}
use Rattle.std.specs.Vec.Iter.{into_iter_items}
use Rattle.std.specs.declared.alloc.Global.{Global}
use Rattle.std.specs.declared.string.String.{String}
use Rattle.std.specs.declared.vec.Vec.{Vec}
use Rattle.tabled_serde.proofs.Columns.{AtMost, more-at_most, none-at_most, same-at_most}
use Rattle.tabled_serde.proofs.Counting.{below-as_many}
use Rattle.tabled_serde.proofs.Reading.{bytes-more}
use Rattle.tabled_serde.specs.Reader.{bytes_of}
use Rattle.tabled_serde.specs.RowErrors.{HasNoColumn, IsNext}
use Rattle.tabled_serde.specs.Rows.{IsBelow, IsPlaced, and_cell, and_empty, no_column, no_more, with_cell, with_empty}
use Rattle.tabled_serde.specs.declared.placed.Unplaced.{Unplaced}
use Rattle.tabled_serde.specs.declared.reader.Record.{Record}

-- with what is placed of the rest behind it, the row is that of all fields
abbrev IsWithRest : List (List ℕ) → Record → Vec (String Global) Global → Unplaced → Type 0
IsWithRest header fields row rest = (others after : List (List ℕ))
    → IsPlaced others (map string_bytes rest.names.now) (map string_bytes (into_iter_items rest.cells)) after
    → IsPlaced (header ++ others) (bytes_of fields.names) (bytes_of fields.cells) (bytes_of row ++ after)

-- the cells so far, below the first names of the header
pub record Placed (header : List (List ℕ)) (fields : Record) (row : Vec (String Global) Global) (rest : Unplaced) : Type 0 where
  pub names : List (List ℕ)
  pub cells : List (List ℕ)
  pub below : IsBelow header names cells (bytes_of row)
  pub names_are : bytes_of fields.names ≡ names ++ map string_bytes rest.names.now
  pub cells_are : bytes_of fields.cells ≡ cells ++ map string_bytes (into_iter_items rest.cells)
  pub most : AtMost header (bytes_of fields.names) (length names)
  pub first : IsWithRest header fields row rest

pub none-placed : (header : List (List ℕ)) (fields : Record) (row : Vec (String Global) Global) (rest : Unplaced) → header ≡ [] → row.items ≡ []
    → rest.names.now ≡ fields.names.items → into_iter_items rest.cells ≡ fields.cells.items → Placed header fields row rest
none-placed header fields row rest none empty names cells = record {
  names = [];
  cells = [];
  below = subst (λ h. IsBelow h [] [] (bytes_of row)) (sym none) (subst (λ r. IsBelow [] [] [] (map string_bytes r)) (sym empty) no_column);
  names_are = ap (map string_bytes) (sym names);
  cells_are = ap (map string_bytes) (sym cells);
  most = subst (λ h. AtMost h (bytes_of fields.names) 0) (sym none) (none-at_most (bytes_of fields.names));
  first = λ others after placed.
      subst (λ h. IsPlaced (h ++ others) (bytes_of fields.names) (bytes_of fields.cells) (bytes_of row ++ after)) (sym none)
      (subst (λ r. IsPlaced others (bytes_of fields.names) (bytes_of fields.cells) (map string_bytes r ++ after)) (sym empty)
      (subst (λ n. IsPlaced others (map string_bytes n) (bytes_of fields.cells) after) names
      (subst (λ c. IsPlaced others (map string_bytes rest.names.now) (map string_bytes c) after) cells placed)));
}

-- as many names as cells are left
left-as_many : (header : List (List ℕ)) (fields : Record) (row : Vec (String Global) Global) (rest : Unplaced) → Placed header fields row rest
    → length fields.names.items ≡ length fields.cells.items → length rest.names.now ≡ length (into_iter_items rest.cells)
left-as_many header fields row rest s as_many = omega (
  arith,
  below-as_many s.below,
  as_many,
  length-map fields.names.items string_bytes,
  length-map fields.cells.items string_bytes,
  ap length s.names_are,
  ap length s.cells_are,
  length-append s.names (map string_bytes rest.names.now),
  length-append s.cells (map string_bytes (into_iter_items rest.cells)),
  length-map rest.names.now string_bytes,
  length-map (into_iter_items rest.cells) string_bytes,
)

next-is : (names : List (String Global)) (name : List ℕ) (after : List (List ℕ)) → map string_bytes names ≡ name ∷ after
    → IsNext names name × (length names ≢ 0)
next-is [] name after same = absurd (cc same)
next-is (own ∷ names) name after same =
    let first : string_bytes own ≡ name = cc in
    (first, λ none. absurd (omega arith))

-- a name that isn't taken doesn't come next, since a cell is left for each
no-next : (rest : Unplaced) (name : List ℕ) → length rest.names.now ≡ length (into_iter_items rest.cells)
    → (IsNext rest.names.now name → into_iter_items rest.cells ≡ []) → (after : List (List ℕ)) → map string_bytes rest.names.now ≢ name ∷ after
no-next rest name as_many other after same =
    let next = next-is rest.names.now name after same in
    absurd (next.1 (as_many ∙ ap length (other next.0)))

-- a name of the header and its cell go from what follows to what is placed
one-further : (before after : List (List ℕ)) (fields : Record) (old new : Vec (String Global) Global) (name cell : List ℕ) (others behind : List (List ℕ))
    → after ≡ before ++ name ∷ [] → bytes_of new ≡ bytes_of old ++ cell ∷ []
    → IsPlaced (before ++ name ∷ others) (bytes_of fields.names) (bytes_of fields.cells) (bytes_of old ++ cell ∷ behind)
    → IsPlaced (after ++ others) (bytes_of fields.names) (bytes_of fields.cells) (bytes_of new ++ behind)
one-further before after fields old new name cell others behind longer more placed =
    let headers = sym (append_assoc before (name ∷ []) others) ∙ ap (λ h. h ++ others) (sym longer) in
    let rows = sym (append_assoc (bytes_of old) (cell ∷ []) behind) ∙ ap (λ r. r ++ behind) (sym more) in
    subst (λ h. IsPlaced h (bytes_of fields.names) (bytes_of fields.cells) (bytes_of new ++ behind)) headers
    (subst (λ r. IsPlaced (before ++ name ∷ others) (bytes_of fields.names) (bytes_of fields.cells) r) rows placed)

module _ {before after : List (List ℕ)} {fields : Record} {old new : Vec (String Global) Global} {rest later : Unplaced} (name : String Global) (cell : String Global) where
  pub cell-placed : Placed before fields old rest → after ≡ before ++ string_bytes name ∷ []
      → map string_bytes rest.names.now ≡ string_bytes name ∷ map string_bytes later.names.now
      → into_iter_items rest.cells ≡ cell ∷ into_iter_items later.cells
      → new.items ≡ old.items ++ cell ∷ [] → Placed after fields new later
  cell-placed s longer names cells more = record {
    names = s.names ++ string_bytes name ∷ [];
    cells = s.cells ++ string_bytes cell ∷ [];
    below =
        subst (λ h. IsBelow h (s.names ++ string_bytes name ∷ []) (s.cells ++ string_bytes cell ∷ []) (bytes_of new)) (sym longer)
        (subst (λ r. IsBelow (before ++ string_bytes name ∷ []) (s.names ++ string_bytes name ∷ []) (s.cells ++ string_bytes cell ∷ []) r)
        (sym (bytes-more old new cell more))
        (and_cell before s.names s.cells (bytes_of old) (string_bytes name) (string_bytes cell) s.below));
    names_are =
        s.names_are ∙ ap (λ l. s.names ++ l) names
        ∙ sym (append_assoc s.names (string_bytes name ∷ []) (map string_bytes later.names.now));
    cells_are =
        s.cells_are ∙ ap (λ l. s.cells ++ map string_bytes l) cells
        ∙ sym (append_assoc s.cells (string_bytes cell ∷ []) (map string_bytes (into_iter_items later.cells)));
    most =
        subst (λ h. AtMost h (bytes_of fields.names) (length (s.names ++ string_bytes name ∷ []))) (sym longer)
        (subst (λ n. AtMost (before ++ string_bytes name ∷ []) (bytes_of fields.names) n) (sym (length-append s.names (string_bytes name ∷ [])))
        (more-at_most before (bytes_of fields.names) (string_bytes name) (length s.names) s.most));
    first = λ others behind placed.
        one-further before after fields old new (string_bytes name) (string_bytes cell) others behind longer (bytes-more old new cell more)
        (s.first (string_bytes name ∷ others) (string_bytes cell ∷ behind)
        (subst (λ n. IsPlaced (string_bytes name ∷ others) n (map string_bytes (into_iter_items rest.cells)) (string_bytes cell ∷ behind)) (sym names)
        (subst (λ c. IsPlaced (string_bytes name ∷ others) (string_bytes name ∷ map string_bytes later.names.now) (map string_bytes c) (string_bytes cell ∷ behind))
        (sym cells)
        (with_cell others (map string_bytes later.names.now) (map string_bytes (into_iter_items later.cells)) behind (string_bytes name) (string_bytes cell) placed))));
  }

  pub empty-placed : Placed before fields old rest → after ≡ before ++ string_bytes name ∷ []
      → length fields.names.items ≡ length fields.cells.items → (IsNext rest.names.now (string_bytes name) → into_iter_items rest.cells ≡ [])
      → later.names.now ≡ rest.names.now → into_iter_items later.cells ≡ into_iter_items rest.cells
      → string_bytes cell ≡ [] → new.items ≡ old.items ++ cell ∷ [] → Placed after fields new later
  empty-placed s longer as_many other names cells empty more = record {
    names = s.names;
    cells = s.cells;
    below =
        subst (λ h. IsBelow h s.names s.cells (bytes_of new)) (sym longer)
        (subst (λ r. IsBelow (before ++ string_bytes name ∷ []) s.names s.cells r)
        (sym (bytes-more old new cell more ∙ ap (λ c. bytes_of old ++ c ∷ []) empty))
        (and_empty before s.names s.cells (bytes_of old) (string_bytes name) s.below));
    names_are = s.names_are ∙ ap (λ l. s.names ++ map string_bytes l) (sym names);
    cells_are = s.cells_are ∙ ap (λ l. s.cells ++ map string_bytes l) (sym cells);
    most =
        subst (λ h. AtMost h (bytes_of fields.names) (length s.names)) (sym longer)
        (same-at_most before (bytes_of fields.names) s.names (map string_bytes rest.names.now) (string_bytes name) s.most s.names_are
        (no-next rest (string_bytes name) (left-as_many before fields old rest s as_many) other));
    first = λ others behind placed.
        one-further before after fields old new (string_bytes name) [] others behind longer
        (bytes-more old new cell more ∙ ap (λ c. bytes_of old ++ c ∷ []) empty)
        (s.first (string_bytes name ∷ others) ([] ∷ behind)
        (with_empty others (map string_bytes rest.names.now) (map string_bytes (into_iter_items rest.cells)) behind (string_bytes name)
        (no-next rest (string_bytes name) (left-as_many before fields old rest s as_many) other)
        (subst (λ n. IsPlaced others (map string_bytes n) (map string_bytes (into_iter_items rest.cells)) behind) names
        (subst (λ c. IsPlaced others (map string_bytes later.names.now) (map string_bytes c) behind) cells placed))));
  }

-- all are placed once no name is left, since there are as many cells
pub all-placed : (header whole : List (List ℕ)) (fields : Record) (row : Vec (String Global) Global) (rest : Unplaced) → Placed header fields row rest
    → header ≡ whole → length fields.names.items ≡ length fields.cells.items → length rest.names.now ≡ 0
    → IsPlaced whole (bytes_of fields.names) (bytes_of fields.cells) (bytes_of row)
all-placed header whole fields row rest s all as_many none =
    let left = into_iter_items rest.cells in
    let cells = nil_from_length left (sym (left-as_many header fields row rest s as_many) ∙ none) in
    let empty =
    subst (λ n. IsPlaced [] (map string_bytes n) (map string_bytes left) []) (sym (nil_from_length rest.names.now none))
    (subst (λ c. IsPlaced [] [] (map string_bytes c) []) (sym cells) no_more) in
    subst (λ h. IsPlaced h (bytes_of fields.names) (bytes_of fields.cells) (bytes_of row)) (append-nil header ∙ all)
    (subst (λ r. IsPlaced (header ++ []) (bytes_of fields.names) (bytes_of fields.cells) r) (append-nil (bytes_of row)) (s.first [] [] empty))

-- the first name that is left has no column
pub first-unplaced : (header whole : List (List ℕ)) (fields : Record) (row : Vec (String Global) Global) (rest : Unplaced) → Placed header fields row rest
    → header ≡ whole → (name : String Global) (others : List (String Global)) (field : String Global) → rest.names.now ≡ name ∷ others
    → string_bytes field ≡ string_bytes name → HasNoColumn whole (bytes_of fields.names) (string_bytes field)
first-unplaced header whole fields row rest s all name others field left same =
    let names = s.names_are ∙ ap (λ l. s.names ++ map string_bytes l) left ∙ ap (λ n. s.names ++ n ∷ map string_bytes others) (sym same) in
    let longer = names ∙ sym (append_assoc s.names (string_bytes field ∷ []) (map string_bytes others)) in
    subst (λ h. HasNoColumn h (bytes_of fields.names) (string_bytes field)) all (record {
      before = s.names;
      after = map string_bytes others;
      names_are = names;
      placed = (s.cells, bytes_of row, s.below);
      unplaced = λ h. absurd (omega (
        arith,
        s.most (s.names ++ string_bytes field ∷ []) (map string_bytes others) longer h,
        length-append s.names (string_bytes field ∷ []),
      ));
    })

-- the bytes of one more name of the header
pub one-longer : (names : List (String Global)) (i : ℕ) (name : String Global) → i < length names → name ≡ get_or names i name
    → map string_bytes (take (i + 1) names) ≡ map string_bytes (take i names) ++ string_bytes name ∷ []
one-longer names i name lt is =
    ap (map string_bytes) (take_more names i name lt ∙ ap (λ n. take i names ++ n ∷ []) (sym is))
    ∙ map-append string_bytes (take i names) (name ∷ [])
