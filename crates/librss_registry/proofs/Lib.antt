pub mod Found
pub mod Missing
pub mod Planned
