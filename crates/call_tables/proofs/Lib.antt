pub mod Noted
pub mod Finding
pub mod Putting
pub mod Writing
pub mod Going
