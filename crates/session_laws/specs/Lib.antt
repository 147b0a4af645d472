pub mod Awaits
pub mod Frames
pub mod Cases
pub mod SnapCases
