pub mod Parts
pub mod Lines
pub mod Adding
pub mod Missing
