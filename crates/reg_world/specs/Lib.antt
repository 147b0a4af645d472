pub mod Served
pub mod RegView
pub mod Rows
