pub mod Placing
pub mod Turns
