pub mod Grounds
pub mod Differences
