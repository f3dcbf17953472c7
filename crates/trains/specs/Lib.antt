pub mod Record
pub mod Changes
pub mod Orders
pub mod Authority
pub mod Sought
