pub mod Ascending
pub mod KeyIndex
pub mod Orders
pub mod Entries
pub mod Listing
