pub mod Entry
pub mod Trace
pub mod Right
