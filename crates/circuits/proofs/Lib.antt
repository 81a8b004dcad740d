pub mod Answered
pub mod Checked
pub mod Demand1
pub mod Laws
pub mod One
pub mod Planned
pub mod Unfolded
pub mod Wrong
