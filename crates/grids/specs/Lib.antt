pub mod Classes
pub mod Cells
