pub mod GroupLaws
pub mod WordLaws
pub mod AtLaws
pub mod ReadLaws
