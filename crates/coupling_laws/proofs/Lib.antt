pub mod Held
pub mod Used
pub mod Places
pub mod Ends
pub mod Fences
pub mod MomentLemmas
pub mod Settles
