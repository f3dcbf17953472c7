pub mod Flags
pub mod Next
pub mod Kept
pub mod Plain
