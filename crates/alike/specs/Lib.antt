pub mod Own
pub mod Pairs
pub mod Lent
pub mod Promises
pub mod Lines
pub mod Blurred
pub mod Figures
pub mod Layout
