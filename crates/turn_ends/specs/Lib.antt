pub mod Alike
pub mod Ends
