pub mod Arguments
pub mod Kinds
pub mod Numbered
pub mod Turns
