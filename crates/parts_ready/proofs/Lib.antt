pub mod Few
pub mod Readying
pub mod There
