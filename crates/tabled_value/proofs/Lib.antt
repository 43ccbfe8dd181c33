pub mod CellsBehind
pub mod Decimals
pub mod FieldRows
pub mod Joining
pub mod Names
pub mod RowsAdded
