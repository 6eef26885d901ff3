pub mod WordLaws
pub mod FormLaws
pub mod Cases
