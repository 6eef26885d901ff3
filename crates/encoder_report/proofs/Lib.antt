pub mod LeftLaws
pub mod Laws
