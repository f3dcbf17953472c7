pub mod PendingLaws
pub mod PlayLaws
