pub mod Stretches
pub mod BookLaws
pub mod ViewLaws
pub mod Frames
pub mod RegisterLaws
pub mod EffectLaws
pub mod EmptyLaws
pub mod TidyLaws
