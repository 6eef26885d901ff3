pub mod NextLaws
pub mod EntryStepLaws
pub mod FillLaws
