pub mod Indexed
pub mod There
