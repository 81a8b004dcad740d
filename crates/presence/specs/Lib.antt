pub mod Handed
pub mod Line
pub mod Presence
pub mod Taking
