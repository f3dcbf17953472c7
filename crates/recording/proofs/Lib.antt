pub mod CallLaws
pub mod GroundLaws
pub mod RunLaws
pub mod RecordLaws
pub mod RecordedLaws
