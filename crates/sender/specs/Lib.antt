pub mod Many
pub mod ManyCode
pub mod Packing
pub mod Sender
