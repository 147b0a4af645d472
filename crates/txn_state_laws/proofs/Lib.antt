pub mod Grows
pub mod Replies
pub mod Serves
pub mod Commits
pub mod Starts
