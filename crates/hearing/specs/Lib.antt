pub mod Code
pub mod Judging
pub mod Receiving
pub mod Steps
