pub mod Escapes
pub mod Widest
pub mod Choosing
pub mod Longest
pub mod Joined
pub mod Printed
pub mod JoinedKinds
