pub mod Decimal
pub mod Text
pub mod Line
pub mod Words
