-- What the proofs of several functions, and those of the C functions, use.
pub mod Parts
pub mod WrittenNumbers
mod Fives
pub mod SettingsNumbers
pub mod Measured
pub mod Counts
pub mod Split
pub mod Record
pub mod Places
pub mod Folds
pub mod Plans
pub mod TypedWord
