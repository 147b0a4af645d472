pub mod Lists
pub mod Gens
pub mod Spelled
