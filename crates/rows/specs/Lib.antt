pub mod Parts
pub mod Row
