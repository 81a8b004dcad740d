pub mod Answers
pub mod One
pub mod Wrong
