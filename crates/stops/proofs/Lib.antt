pub mod One
pub mod Places
pub mod Said
pub mod Wrong
