pub mod OperandLaws
pub mod EndLaws
pub mod RowLaws
