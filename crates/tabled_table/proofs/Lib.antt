pub mod Names
pub mod NewTables
pub mod PrintedLines
pub mod Progressions
pub mod Shown
pub mod Stream
pub mod Titles
pub mod Walks
