pub mod Flags
pub mod Content
pub mod Block
pub mod Promises
