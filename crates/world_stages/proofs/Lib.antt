pub mod Closing
pub mod Taking
pub mod Settling
pub mod Making
