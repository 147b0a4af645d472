pub mod OrderLaws
pub mod VoteLaws
pub mod Unreleased
pub mod ClosedLaws
pub mod PassedLaws
pub mod FreshLaws
