-- Laws of the definitions in this crate's specs. Ghost members of a priority cite them here, since
-- they can't cite `proofs` of their own crate.
pub mod Choices
pub mod Grown
pub mod Permitted
pub mod Round
pub mod Shrunk
pub mod Sums
