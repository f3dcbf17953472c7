pub mod Running
pub mod Recorded
