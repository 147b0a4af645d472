pub mod Searching
pub mod Indexed
pub mod Found
pub mod Entries
pub mod Beside
pub mod Listed
pub mod Sieve
