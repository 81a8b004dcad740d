pub mod Known
pub mod Reports
pub mod Slips
pub mod Watch
