pub mod ReturnsText
pub mod Asked
pub mod Cells
pub mod Sends
pub mod Printed
