-- The names of the crates below, and of the definitions of this one, that its proofs use. Declares
-- nothing.
pub use Rattle.std.proofs.Common.{Some, inl, inr, refl, subst, true, ℕ, ◌≡◌}
pub use Rattle.tabled_c.specs.Asked.{StyleName, style_of}
pub use Rattle.tabled_c.specs.Printed.{IsAsked, IsTable}
pub use Rattle.tabled_c.specs.declared.error_code.ErrorCode.TheVariants.{NoText}
pub use Rattle.tabled_config.specs.Options.{with_style}
pub use Rattle.tabled_config.specs.declared.style.Style.{Style}
unfoldable pub use Rattle.tabled_table.specs.NewConfig.{new_config}
