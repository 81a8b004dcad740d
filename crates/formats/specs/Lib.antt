pub mod Code
pub mod Formats
pub mod Settings
pub mod Settled
pub mod Sound
