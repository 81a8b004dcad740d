pub mod Found
pub mod Limit
pub mod Steps
pub mod Stretch
pub mod Taken
