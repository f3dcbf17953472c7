pub mod KindLaws
pub mod FormLaws
pub mod FrontLaws
pub mod AskedLaws
