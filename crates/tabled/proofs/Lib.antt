pub mod FittedTables
pub mod Names
pub mod Noting
pub mod Outputs
pub mod PlainTexts
pub mod RenderedTables
pub mod BytesSince
pub mod StreamedTables
