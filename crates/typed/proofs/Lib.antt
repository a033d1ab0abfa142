-- What the proofs of several functions use, and the theorems (Calls).
pub mod Texts
pub mod OneLine
pub mod Scanned
pub mod Built
pub mod Written
pub mod Listing
pub mod Faults
pub mod Answered
pub mod AcceptedLists
pub mod RoundTrip
pub mod FaultBounds
pub mod Calls
mod Examples
