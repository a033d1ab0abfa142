-- What the proofs of several functions, and the layers above, use.
pub mod Shares
