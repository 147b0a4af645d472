pub mod Allowing
pub mod Rooming
pub mod Stepping
pub mod Stating
pub mod Known
pub mod Acting
