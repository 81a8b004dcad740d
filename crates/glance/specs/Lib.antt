pub mod Code
pub mod Glance
