pub mod Decided
pub mod Applied
pub mod Answered
pub mod ShardLaws
