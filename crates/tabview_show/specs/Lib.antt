pub mod Asked
pub mod Endings
pub mod Hints
