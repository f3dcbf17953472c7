pub mod Files
pub mod Turns
pub mod Outcome
