pub mod MixedLaws
pub mod QuestionLaws
pub mod Links
