pub mod Answered
pub mod Circuits
pub mod Plans
