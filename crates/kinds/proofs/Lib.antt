pub mod RangeLaws
pub mod FoundLaws
pub mod OrderLaws
