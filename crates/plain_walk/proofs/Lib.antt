pub mod Pairs
pub mod Next
pub mod Begun
pub mod Owing
