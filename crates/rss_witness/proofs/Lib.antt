pub mod Comparing
pub mod Distinct
pub mod Inserting
pub mod Ascending
