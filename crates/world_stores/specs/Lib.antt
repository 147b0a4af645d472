pub mod StoresView
pub mod Serving
