pub mod Scopes
pub mod Labels
pub mod Prophets
pub mod Relocate
pub mod Layout
pub mod Columns
pub mod Room
