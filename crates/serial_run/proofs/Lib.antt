pub mod Stages
pub mod UnderWay
