pub mod Division
pub mod Refusals
pub mod Runs
pub mod Test
