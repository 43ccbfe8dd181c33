mod PlainTests
pub mod AlikeRows
pub mod ApartPictures
pub mod EstimatedSizes
pub mod Measuring
pub mod OneLines
pub mod ShownCells
pub mod Names
pub mod Printing
pub mod EffectiveSizes
pub mod Whole
