pub mod Plays
pub mod Sums
pub mod Lines
pub mod Gens
pub mod Serves
pub mod Promised
pub mod Answered
pub mod Again
