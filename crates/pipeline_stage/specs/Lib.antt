pub mod Blocks
pub mod Statements
pub mod Marks
pub mod CopiesView
