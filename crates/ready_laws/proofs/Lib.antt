pub mod Traffic
pub mod Links
pub mod Stubs
