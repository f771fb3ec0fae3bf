pub mod Items
pub mod Laws
pub mod Lemmas
pub mod Places
pub mod Questions
pub mod RowLaws
pub mod Rows
