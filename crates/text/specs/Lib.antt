pub mod Bytes
pub mod Lists
pub mod All
pub mod Scan
pub mod Classes
pub mod Lines
pub mod Pieces
pub mod Answer
