pub mod GroupAt
pub mod ReadFrom
pub mod WordLine
