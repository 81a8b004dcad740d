pub mod Many
pub mod Receiver
pub mod Unpacking
