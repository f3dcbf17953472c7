pub mod DistanceLaws
pub mod ListLaws
pub mod KeptLaws
pub mod MoveLaws
pub mod StuckLaws
pub mod BehindLaws
pub mod Promise
