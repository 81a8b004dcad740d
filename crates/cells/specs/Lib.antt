pub mod Cells
pub mod Code
pub mod Placement
pub mod Sent
