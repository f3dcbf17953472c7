pub mod GateLaws
pub mod PutLaws
