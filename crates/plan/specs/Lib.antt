pub mod Ends
pub mod Clauses
pub mod Answers
pub mod Promises
