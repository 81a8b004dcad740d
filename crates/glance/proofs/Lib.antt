pub mod Laws
pub mod One
pub mod Quiet
pub mod Some
pub mod Words
pub mod Wrong
