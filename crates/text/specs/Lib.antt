pub mod Put
pub mod Text
pub mod Words
