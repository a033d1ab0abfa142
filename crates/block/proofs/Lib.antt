-- What the proofs of several functions, and the layers above, use.
pub mod Dimensions
pub mod TextLine
pub mod Dims
pub mod NoFeed
