-- Checks of the tables: no other file imports them.
pub mod SampleFiles
pub mod Sampling
pub mod RowsRegister
pub mod RowsRefused
pub mod RowsTransactions
pub mod RowsSnapshots
pub mod RowsServices
pub mod RowsPolicy
pub mod RowsWithheld
pub mod RowsWaits
pub mod Samples
