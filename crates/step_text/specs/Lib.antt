pub mod Reading
pub mod Numbers
pub mod Lines
pub mod Spelling
pub mod Texts
