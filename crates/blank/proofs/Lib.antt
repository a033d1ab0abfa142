pub mod Lengths
pub mod Flat
pub mod ShownBytes
pub mod NamedCells
pub mod ElementPass
pub mod Answered
pub mod BlankedTree
pub mod Calls
