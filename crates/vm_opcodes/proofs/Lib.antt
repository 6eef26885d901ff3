pub mod Table
pub mod Variants
pub mod Laws
pub mod Cases
