pub mod Marks
pub mod One
pub mod Placement
pub mod Places
pub mod Sent
pub mod Subframes
pub mod Whole
pub mod Wrong
