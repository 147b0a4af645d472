-- operations, histories and their calls
pub mod Formula
pub mod Operation
pub mod History
pub mod Tokens
pub mod Mutation
pub mod Samples
-- the orders that a history demands, and those that meet them
pub mod RealTime
pub mod Stages
pub mod Causality
pub mod Behind
pub mod Candidate
pub mod Legal
pub mod Regular
-- scripts, and the entries that they give
pub mod Cursor
pub mod CursorSamples
pub mod CallStatement
pub mod Scripts
pub mod Walk
pub mod Given
pub mod Walked
pub mod ScriptRun
pub mod PipeSample
pub mod ScriptSamples
