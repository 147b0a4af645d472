-- what a checker answers
pub mod Verdicts
-- what its passes keep
pub mod Places
pub mod Table
pub mod Tops
pub mod Bad
pub mod Passes
