-- The names of the crates below, and of the definitions of this one, that its proofs use. Declares
-- nothing.
pub use Rattle.std.proofs.Common.{List, Result, [], ap, append_assoc, length, map, refl, rules, subst, suc, sym, take, vec_len, zero, ℕ, ◌++◌, ◌+◌}
pub use Rattle.std.proofs.Common.{◌∙◌, ◌∷◌, ◌≡◌}
pub use Rattle.std.proofs.lemmas.List.{map-append}
pub use Rattle.std.proofs.lemmas.List.Elements.{All-cons, All-nil}
pub use Rattle.std.proofs.lemmas.Slice.Zip.{all_zipped_more}
pub use Rattle.std.specs.Cow.{cow_str_bytes}
pub use Rattle.std.specs.Iterator.Adapters.{zip_first, zip_second}
pub use Rattle.std.specs.List.{AllZip, range_with_len}
pub use Rattle.std.specs.Slice.Iter.{iter_rest}
pub use Rattle.std.specs.Vec.Iter.{into_iter_items, into_iter_len}
pub use Rattle.tabled_base.proofs.Lengthening.{rectangular-from_length}
pub use Rattle.tabled_base.specs.Cells.{IsRectangular, row_texts}
pub use Rattle.tabled_value.specs.Fields.{Joined, Says}
pub use Rattle.tabled_value.specs.ValueRows.{FieldsAdded, ValuesAdded, pairs}
