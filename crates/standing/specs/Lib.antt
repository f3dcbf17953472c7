pub mod Said
pub mod Standing
pub mod Functions
pub mod Calls
pub mod Ordered
