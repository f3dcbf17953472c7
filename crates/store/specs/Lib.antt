pub mod Layout
pub mod Stands
pub mod Lent
pub mod Tidy
pub mod Emptied
