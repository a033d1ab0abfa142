-- What the proofs of several functions, and the layers above, use.
pub mod Ranges
pub mod Complete
pub mod RecordLength
mod Within
