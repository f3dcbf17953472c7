pub mod TurnedLaws
pub mod FirstSetLaws
