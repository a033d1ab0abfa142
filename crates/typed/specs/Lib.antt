pub mod Text
pub mod Line
pub mod Scan
pub mod Typed
pub mod Promises
pub mod Clauses
