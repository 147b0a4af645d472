pub mod Noting
pub mod Rising
pub mod Rooms
