pub mod Covering
pub mod Indexed
pub mod Names
pub mod Runs
pub mod Spans
