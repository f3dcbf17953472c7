pub mod Viewed
pub mod Printed
