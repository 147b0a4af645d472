pub mod InFile
pub mod Laws
