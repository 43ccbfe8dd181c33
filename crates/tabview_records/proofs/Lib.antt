pub mod NarrowedTexts
pub mod RecordTexts
pub mod SentRecords
pub mod RecordFits
pub mod PrintedRecords
