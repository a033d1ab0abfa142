-- What the proofs of several functions, and the layers above, use.
pub mod Pasted
pub mod Feeds
pub mod Cases
pub mod Places
pub mod Room
pub mod LinesLeft
pub mod Crossed
pub mod BodyRows
pub mod Ground
pub mod Corners
pub mod Painted
