pub mod SilentSteps
pub mod SameOperations
pub mod EntrySteps
pub mod Falling
pub mod TakeSteps
pub mod AllStates
