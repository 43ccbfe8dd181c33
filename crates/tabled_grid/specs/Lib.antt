pub mod ApartSheet
pub mod ColumnStyles
pub mod Grid
pub mod Narrow
pub mod Picture
pub mod AdditiveSheet
pub mod Printed
pub mod Shown
