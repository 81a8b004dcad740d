pub mod Answers
pub mod Bits
pub mod Check
pub mod Eight
pub mod Examples
pub mod Run
pub mod Sender
pub mod Step
