pub mod Promises
pub mod Figures
pub mod TypedFigures
