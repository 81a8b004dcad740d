pub mod Code
pub mod Guards
