pub mod Laws
pub mod OtherLaws
pub mod FirstLaws
