pub mod Aligning
pub mod CellEnds
pub mod Given
pub mod Names
pub mod Returning
pub mod Styles
