pub mod Code
pub mod Numbers
