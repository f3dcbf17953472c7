pub mod Profiles
pub mod Reading
pub mod Places
pub mod Writing
pub mod Promised
pub mod Regular
pub mod Begun
pub mod Numbered
