pub mod Pending
pub mod Playing
