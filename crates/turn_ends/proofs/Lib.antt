pub mod Least
pub mod Likes
