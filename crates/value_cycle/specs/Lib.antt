pub mod Area
pub mod Order
pub mod Context
