pub mod TurnoutLaws
pub mod PutLaws
