pub mod Fits
pub mod Going
pub mod One
pub mod Texts
pub mod Whole
pub mod Wrong
