pub mod Log
pub mod Settled
pub mod Back
