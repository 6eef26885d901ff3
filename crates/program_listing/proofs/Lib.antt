pub mod RowLaws
pub mod Places
pub mod Laws
pub mod Pieces
