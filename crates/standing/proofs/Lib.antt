pub mod SaidLaws
pub mod RulesLaws
pub mod KeptLaws
pub mod Theorem
pub mod OrderedLaws
pub mod ScarLaws
pub mod Links
