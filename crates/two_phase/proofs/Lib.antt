pub mod Frees
pub mod Opens
pub mod Shapes
pub mod Values
