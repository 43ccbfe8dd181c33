pub mod Names
pub mod Printings
pub mod Putting
pub mod RowPieces
pub mod Sources
pub mod ToWriters
pub mod Widths
pub mod Windows
