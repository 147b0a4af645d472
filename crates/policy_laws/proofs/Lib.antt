pub mod Places
pub mod Turns
pub mod Taken
pub mod Proper
pub mod Whole
