pub mod Statuses
pub mod FaultText
pub mod Played
pub mod Reported
pub mod Disk
pub mod Generated
pub mod Answer
pub mod Again
