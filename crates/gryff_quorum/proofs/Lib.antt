pub mod GreatestHeard
pub mod RoundRequests
pub mod OneStamp
pub mod SmallStamps
