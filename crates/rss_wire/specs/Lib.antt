pub mod Messages
pub mod Net
pub mod Line
pub mod Kept
pub mod Samples
pub mod Outbox
