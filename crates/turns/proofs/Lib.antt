pub mod PlacingLaws
pub mod TurnLaws
