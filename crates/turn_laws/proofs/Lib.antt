pub mod Puts
pub mod Works
pub mod Hears
pub mod Acts
pub mod Losses
