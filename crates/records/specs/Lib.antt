pub mod Kinds
pub mod Numbered
pub mod Form
pub mod Asked
pub mod Told
