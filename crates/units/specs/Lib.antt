pub mod Back
pub mod Code
pub mod Units
