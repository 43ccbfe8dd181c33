pub mod EstimatedTotals
pub mod Greatest
pub mod Names
pub mod Passing
pub mod Reaching
pub mod ShrunkTotals
pub mod Totalling
