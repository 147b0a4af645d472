pub mod Commits
pub mod Openings
pub mod Serving
