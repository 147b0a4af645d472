pub mod View
pub mod Turned
