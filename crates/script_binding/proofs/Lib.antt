pub mod AllLimited
pub mod AllNamed
pub mod Known
pub mod Passing
