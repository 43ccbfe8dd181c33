pub mod Layouts
pub mod Floors
pub mod Fitted
pub mod PrintedTables
pub mod Streams
pub mod Fallback
pub mod Styles
pub mod MarkdownRules
