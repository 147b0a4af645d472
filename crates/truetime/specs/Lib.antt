pub mod Reading
pub mod TrueMoment
