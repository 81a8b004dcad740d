pub mod Answers
pub mod Demands
pub mod Laws
pub mod One
pub mod Refusals
pub mod Walks
pub mod Writing
pub mod Wrong
