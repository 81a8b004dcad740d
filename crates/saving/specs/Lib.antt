pub mod Code
pub mod Demands
pub mod Salvage
