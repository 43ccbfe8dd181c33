pub mod CompactCells
pub mod CompactLines
pub mod Fitting
pub mod Printed
pub mod Shown
pub mod Tables
