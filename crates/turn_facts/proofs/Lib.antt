pub mod Small
pub mod Operations
pub mod Slots
pub mod Stubs
pub mod Facts
pub mod Cursors
pub mod Places
pub mod Steps
