pub mod ListingLaws
pub mod WholeLaws
