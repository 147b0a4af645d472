pub mod Due
pub mod Lists
pub mod Kept
