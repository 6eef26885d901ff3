pub mod Canonical
pub mod Assemble
pub mod Printing
