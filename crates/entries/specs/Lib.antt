pub mod Marks
pub mod Entry
pub mod Copied
pub mod Kept
pub mod Undone
