pub mod Rules
pub mod Demand3
pub mod Machine
pub mod Kept
pub mod Played
pub mod Always
