pub mod Terms
pub mod Starred
pub mod ReadingLaws
pub mod LengthLaws
pub mod AcceptedLaws
pub mod LateLaws
