pub mod Answered
pub mod Answers
pub mod Code
pub mod Numbers
pub mod Records
pub mod Written
