pub mod Views
pub mod Covering
pub mod Launched
pub mod Timed
pub mod Laws
