pub mod Entries
pub mod References
pub mod Shortest
