pub mod LineLaws
pub mod HostLaws
