pub mod Alike
pub mod Sifted
