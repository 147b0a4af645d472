pub mod LockView
pub mod Kept
pub mod Settled
pub mod Holders
