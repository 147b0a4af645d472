-- the text of a history
pub mod Spelling
-- how it is read
pub mod Reading
pub mod Named
pub mod Formulas
pub mod Operations
pub mod Entries
pub mod Texts
-- what is kept while it is read
pub mod Kept
