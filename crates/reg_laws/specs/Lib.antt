pub mod Awaited
pub mod Stored
pub mod Files
pub mod Told
pub mod Rounds
pub mod Line
pub mod Agree
pub mod Laws
