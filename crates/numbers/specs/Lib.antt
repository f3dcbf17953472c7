pub mod Fields
pub mod Pieces
pub mod Numbers
