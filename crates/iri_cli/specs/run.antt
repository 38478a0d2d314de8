-- The run over the lines of an input.
pub mod Limits
pub mod Ending
pub mod Words
pub mod Run
pub mod Buffers
pub mod Refused
pub mod Prepared
