pub mod Heard
pub mod Reading
pub mod Records
pub mod Totals
