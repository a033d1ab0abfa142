-- What the proofs of several functions, and the layers above, use.
pub mod LeafNumbers
pub mod Calls
pub mod Bytes
pub mod Records
pub mod Alone
mod Parts
pub mod Pair
pub mod Numbers
pub mod Written
