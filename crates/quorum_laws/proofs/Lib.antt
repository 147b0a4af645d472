pub mod Counts
pub mod StampTests
pub mod Greatest
pub mod Rounds
pub mod Left
