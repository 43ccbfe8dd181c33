-- The definitions of streamed tables.
pub mod Applied
pub mod GoesOn
pub mod LikeTable
pub mod Marked
pub mod NewTable
pub mod Printed
pub mod Progress
pub mod Row
pub mod Streamed
pub mod Streams
