pub mod RestLaws
pub mod Laws
