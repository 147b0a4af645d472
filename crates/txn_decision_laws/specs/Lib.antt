pub mod Calm
pub mod DecisionLaws
pub mod Entered
pub mod DateLaws
