pub mod Moving
pub mod Moves
