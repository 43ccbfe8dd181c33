pub mod Fields
pub mod ValueRows
