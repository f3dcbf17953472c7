pub mod Frame
pub mod Kinds
pub mod Told
pub mod Mixed
