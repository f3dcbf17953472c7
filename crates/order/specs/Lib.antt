pub mod Sound
pub mod InOrder
pub mod Scar
