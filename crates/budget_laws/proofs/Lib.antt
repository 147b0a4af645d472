pub mod Sums
pub mod Nets
pub mod Paid
pub mod Covered
pub mod Turns
pub mod Lost
pub mod Bounds
