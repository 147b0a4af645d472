-- `Samples` are checks of the tables: no other file imports them.
pub mod Samples
pub mod OneShard
