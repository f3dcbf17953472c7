pub mod Gates
pub mod Forms
