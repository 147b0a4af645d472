pub mod Fine
pub mod Callers
pub mod Laws
