pub mod Bytewise
pub mod FitLaws
pub mod RowLaws
