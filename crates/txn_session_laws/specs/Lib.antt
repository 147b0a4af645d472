pub mod Standing
pub mod FrameLaws
pub mod Undone
pub mod Alone
pub mod OnwardLaws
