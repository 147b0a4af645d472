pub mod Services
pub mod Marks
pub mod LastView
pub mod LeastTimes
pub mod Deps
pub mod Seen
pub mod Forms
pub mod ContextView
