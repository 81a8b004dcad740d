pub mod Kept
pub mod Stops
