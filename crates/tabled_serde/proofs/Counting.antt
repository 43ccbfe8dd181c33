-- As many cells as names.
use Rattle.std.proofs.Common.{List, [], ap, arith, length, length-append, map, string_bytes, sym, ℕ, ◌++◌, ◌∙◌, ◌∷◌, ◌≡◌, refl}
use Rattle.std.proofs.lemmas.List.{length-map}
use Rattle.serde.specs.Event.{Event}
use Rattle.tabled_serde.specs.Reader.{FieldsRead, bytes_of}
use Rattle.tabled_serde.specs.Records.{AreFields, and_field, and_flattened, and_nothing, none_yet}
use Rattle.tabled_serde.specs.Rows.{IsBelow, and_cell, and_empty, no_column}
use Rattle.tabled_serde.specs.declared.reader.Record.{Record}

pub fields-as_many : {none : List ℕ} {es : List Event} {names cells : List (List ℕ)} → AreFields none es names cells → length names ≡ length cells
fields-as_many none_yet = refl
fields-as_many (and_field es ns vs names cells name cell before named filled) =
    omega (arith, fields-as_many before, length-append names (name ∷ []), length-append cells (cell ∷ []))
fields-as_many (and_flattened n es inner names cells inner_names inner_cells before fields) =
    omega (arith, fields-as_many before, fields-as_many fields, length-append names inner_names, length-append cells inner_cells)
fields-as_many (and_nothing es names cells before) = fields-as_many before

pub below-as_many : {header names cells row : List (List ℕ)} → IsBelow header names cells row → length names ≡ length cells
below-as_many no_column = refl
below-as_many (and_cell header names cells row name cell before) =
    omega (arith, below-as_many before, length-append names (name ∷ []), length-append cells (cell ∷ []))
below-as_many (and_empty header names cells row name before) = below-as_many before

-- the texts are as many as their bytes
pub record-as_many : (r : Record) → length (bytes_of r.names) ≡ length (bytes_of r.cells) → length r.names.items ≡ length r.cells.items
record-as_many r h = sym (length-map r.names.items string_bytes) ∙ h ∙ length-map r.cells.items string_bytes

pub read-as_many : {none : List ℕ} {before after : List Event} {old new : Record} → FieldsRead none before after old new
    → old.names.items ≡ [] → old.cells.items ≡ [] → length new.names.items ≡ length new.cells.items
read-as_many {old = old} {new = new} f no_names no_cells = record-as_many new
    (ap length (f.names_are ∙ ap (λ l. map string_bytes l ++ f.names) no_names)
    ∙ fields-as_many f.fields ∙ ap length (sym (f.cells_are ∙ ap (λ l. map string_bytes l ++ f.cells) no_cells)))
