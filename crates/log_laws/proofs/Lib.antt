pub mod Marks
pub mod Splitting
pub mod Reading
pub mod Lengths
pub mod Grammar
