pub mod Computed
pub mod Heard
pub mod Places
pub mod Reading
pub mod Records
pub mod Said
pub mod Totals
