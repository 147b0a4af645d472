pub mod Alone
pub mod Dependencies
pub mod Laws
