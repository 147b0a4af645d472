pub mod Commits
pub mod Shards
