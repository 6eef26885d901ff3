pub mod BucketLaws
pub mod SearchLaws
pub mod LinkLaws
pub mod ChainLaws
pub mod Cases
