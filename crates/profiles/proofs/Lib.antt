pub mod ProfileLaws
pub mod ReadingLaws
pub mod BehindLaws
pub mod PlaceLaws
pub mod WritingLaws
pub mod RoundTrip
pub mod Promise
