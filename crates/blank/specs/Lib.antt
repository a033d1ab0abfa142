pub mod Alike
pub mod Blank
pub mod Clauses
pub mod Paper
