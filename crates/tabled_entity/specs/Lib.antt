pub mod Changes
pub mod ChangeIndex
pub mod RowChanges
pub mod RowPlaces
pub mod RowValues
pub mod RunMap
