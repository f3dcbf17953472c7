pub mod ReadingLaws
pub mod PlaceLaws
