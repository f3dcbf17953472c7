pub mod Listing
pub mod Whole
