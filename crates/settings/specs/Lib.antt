pub mod Reading
pub mod Clauses
pub mod Defaults
pub mod Figures
pub mod Promises
