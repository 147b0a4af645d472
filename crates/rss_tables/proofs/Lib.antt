-- Checks of the tables: no other file imports them.
pub mod ShardLaws
pub mod TableLaws
pub mod Samples
pub mod SessionSamples
pub mod ShardSamples
