pub mod Scanning
pub mod Least
pub mod Choosing
pub mod Walking
pub mod Stepping
pub mod Laws
pub mod Passing
pub mod Agreement
