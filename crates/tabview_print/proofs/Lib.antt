pub mod FloorLemmas
pub mod FittedLines
pub mod FittedTables
pub mod Printing
pub mod Sides
pub mod Ranges
pub mod ShownTables
