pub mod Instructions
pub mod Words
pub mod Groups
pub mod Bytecode
pub mod Listing
pub mod Refusals
pub mod CanonicalForm
