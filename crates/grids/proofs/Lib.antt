pub mod GridLaws
