pub mod Turnouts
