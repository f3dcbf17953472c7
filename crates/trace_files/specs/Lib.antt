pub mod Turns
pub mod Outcome
pub mod Answer
pub mod Reasons
