-- What the proofs of several functions, and the layers above, use.
pub mod Either
pub mod Elems
pub mod Refusals
pub mod Stores
pub mod Copies
pub mod Every
pub mod Sums
pub mod Padded
