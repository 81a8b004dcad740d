pub mod Cases
pub mod Characters
