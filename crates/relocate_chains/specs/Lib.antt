pub mod Chains
pub mod ByChains
