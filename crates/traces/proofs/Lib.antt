pub mod EntryLaws
pub mod TraceLaws
pub mod RightLaws
pub mod ToldLaws
