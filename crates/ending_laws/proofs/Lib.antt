pub mod Turns
pub mod Stages
pub mod Calm
pub mod Strays
pub mod Ranged
pub mod RangedRuns
pub mod Stuck
