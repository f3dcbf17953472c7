pub mod FileLaws
pub mod TurnLaws
