pub mod HeaderLaws
pub mod LogLaws
pub mod SettledLaws
pub mod BackLaws
pub mod BoundsLaws
pub mod TidyLaws
