pub mod Answered
pub mod Back
pub mod Frames
pub mod Labels
pub mod Rows
pub mod Slots
