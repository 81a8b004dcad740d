pub mod Boxes
pub mod Face
pub mod Papers
pub mod Rows
pub mod Shut
