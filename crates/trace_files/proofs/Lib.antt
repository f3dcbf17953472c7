pub mod TurnLaws
pub mod AnswerLaws
pub mod ReasonLaws
