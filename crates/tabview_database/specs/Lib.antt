pub mod Held
pub mod Header
pub mod Inputs
pub mod Obstacles
pub mod Settled
