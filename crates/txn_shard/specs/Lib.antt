pub mod ShardView
pub mod Parts
pub mod Applying
pub mod Laws
