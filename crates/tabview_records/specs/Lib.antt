pub mod Narrowed
pub mod Records
pub mod Expanded
