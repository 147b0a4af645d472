pub mod Declarations
pub mod Doubles
pub mod Services
pub mod Resolve
pub mod NameTables
pub mod Scripts
pub mod Document
