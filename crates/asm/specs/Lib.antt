pub mod Parts
pub mod Operands
pub mod Rows
pub mod Survey
