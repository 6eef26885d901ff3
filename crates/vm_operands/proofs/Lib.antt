pub mod Laws
pub mod DigitLaws
pub mod Cases
