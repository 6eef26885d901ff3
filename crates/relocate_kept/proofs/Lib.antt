pub mod BitLaws
pub mod KeptLaws
pub mod MarkLaws
