pub mod Adding
pub mod Answered
pub mod Code
pub mod Figures
pub mod Sheets
pub mod Stretch
pub mod Taking
