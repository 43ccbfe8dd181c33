pub mod Escaped
pub mod PrintedRecords
pub mod RecordLines
pub mod Rows
pub mod Truncated
