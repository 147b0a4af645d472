pub mod View
pub mod Halves
pub mod Readies
pub mod Settled
pub mod Laws
