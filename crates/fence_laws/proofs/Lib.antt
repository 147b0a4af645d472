pub mod StepsOf
pub mod Going
pub mod Walk
pub mod Ends
