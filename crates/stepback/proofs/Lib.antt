pub mod BackLaws
