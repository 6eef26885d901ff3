pub mod Origins
pub mod AcceptedLaws
pub mod RowWordLaws
pub mod BracketLaws
pub mod Cases
