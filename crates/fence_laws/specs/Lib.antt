pub mod Fences
pub mod Laws
