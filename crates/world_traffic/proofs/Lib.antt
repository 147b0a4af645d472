pub mod Again
pub mod Counts
pub mod Ready
pub mod Rows
pub mod Sent
