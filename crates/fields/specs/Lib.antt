pub mod Turned
pub mod FirstSet
