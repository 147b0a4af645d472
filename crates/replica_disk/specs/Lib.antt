pub mod Disks
pub mod Memory
pub mod Cells
pub mod Registers
pub mod Accepts
pub mod Serving
