pub mod Files
pub mod Serving
pub mod Given
pub mod Told
pub mod Asked
pub mod Laws
