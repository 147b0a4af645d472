pub mod PreparedView
pub mod Written
pub mod Sifted
pub mod Kept
