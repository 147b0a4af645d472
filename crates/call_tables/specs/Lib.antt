pub mod Tables
pub mod Cells
pub mod Along
