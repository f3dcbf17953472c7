pub mod Members
pub mod Checked
pub mod Held
pub mod NameLaws
