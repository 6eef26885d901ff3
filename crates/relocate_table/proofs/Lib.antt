pub mod FillLaws
pub mod TableLaws
