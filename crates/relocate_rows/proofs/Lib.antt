pub mod Laws
pub mod EntryLaws
pub mod LaidLaws
