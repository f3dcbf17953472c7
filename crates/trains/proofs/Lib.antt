pub mod AuthorityLaws
pub mod OrderLaws
pub mod ChangeLaws
