pub mod Lines
pub mod Decode
pub mod AsRead
pub mod Open
pub mod Steps
