pub mod Store
pub mod Clauses
pub mod Promises
