pub mod ShardWalk
pub mod Serves
pub mod Gives
pub mod Tells
pub mod Asks
