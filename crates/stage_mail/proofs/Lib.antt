pub mod Dues
pub mod Keeping
pub mod Places
pub mod Taking
