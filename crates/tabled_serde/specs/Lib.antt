pub mod Errors
pub mod Events
pub mod Reader
pub mod Records
pub mod RowErrors
pub mod RowSteps
pub mod Rows
