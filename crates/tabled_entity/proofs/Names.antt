-- The names of the crates below, and of the definitions of this one, that its proofs use. Declares
-- nothing.
pub use Rattle.std.proofs.Common.{List, None, Option, Some, [], ap, arith, false, get_or, length, refl, reverse, subst, suc, sym, take}
pub use Rattle.std.proofs.Common.{zero, ℕ, ◌+◌, ◌-◌, ◌<◌, ◌∙◌, ◌∷◌, ◌≡◌}
pub use Rattle.std.proofs.lemmas.List.{length-reverse, reverse-append}
pub use Rattle.std.proofs.lemmas.Option.{slice_get-get_or}
pub use Rattle.tabled_base.specs.declared.position.Entity.{Entity}
pub use Rattle.tabled_base.specs.declared.position.Entity.TheVariants.{Cell, Column, Global, Row}
pub use Rattle.tabled_entity.specs.ChangeIndex.{IsIndexed, last_for, later, latest, same}
pub use Rattle.tabled_entity.specs.Changes.{first_covering, setting_at}
pub use Rattle.tabled_entity.specs.RowValues.{value_of}
