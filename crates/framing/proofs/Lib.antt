pub mod RefusalLaws
pub mod ToldLaws
pub mod FramingLaws
pub mod BehindLaws
pub mod PlaceLaws
