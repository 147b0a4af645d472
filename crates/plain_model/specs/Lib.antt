pub mod Found
pub mod Written
pub mod Listed
pub mod Orders
pub mod Messages
pub mod Causes
