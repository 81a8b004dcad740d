pub mod Logs
pub mod Table
pub mod Taking
