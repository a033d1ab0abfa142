pub mod Lanes
pub mod Loads
pub mod Flags
pub mod SeenParts
pub mod FirstFeed
pub mod Lines
pub mod Measured
pub mod JoinedLines
