pub mod Facts
pub mod Events
pub mod Known
pub mod Steps
