pub mod ShareLaws
pub mod FitLaws
pub mod OperationLaws
pub mod AfterLaws
