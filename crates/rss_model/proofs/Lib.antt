pub mod HistoryLemmas
pub mod OrderLemmas
pub mod PathLemmas
pub mod RegularSample
pub mod ScriptSampleLemmas
