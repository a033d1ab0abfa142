pub mod Program
pub mod Words
pub mod TypedProgram
pub mod Clauses
pub mod Promises
