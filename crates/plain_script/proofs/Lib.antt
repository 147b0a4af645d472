pub mod Members
pub mod WayLemmas
pub mod WayReaches
pub mod Tellings
pub mod LeadsRight
pub mod ToldRight
pub mod StandingLemmas
pub mod StandingRight
