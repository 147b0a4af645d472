pub mod FileOrder
pub mod ReadFiles
