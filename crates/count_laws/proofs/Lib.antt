pub mod FewLines
pub mod Budget
pub mod Moves
pub mod Works
pub mod Steps
pub mod Ordinals
pub mod Runs
