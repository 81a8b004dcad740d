pub mod Code
pub mod Controller
pub mod Demands
pub mod Equipment
pub mod Packing
pub mod Ports
pub mod Status
pub mod Tables
