pub mod Written
pub mod Encoded
