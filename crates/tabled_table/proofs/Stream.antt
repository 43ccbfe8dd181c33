-- The lemmas of streamed tables.
pub mod Drawn
pub mod Finished
pub mod FirstRows
pub mod Going
pub mod Marked
pub mod Measures
pub mod SameSheet
pub mod Steps
pub mod StreamedTexts
pub mod ToWriters
pub mod WholeTexts
pub mod Widths
