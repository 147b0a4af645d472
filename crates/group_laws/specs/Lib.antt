pub mod Majority
pub mod Said
pub mod Order
pub mod Sound
pub mod Chosen
