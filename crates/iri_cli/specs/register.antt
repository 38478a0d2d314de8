-- The command `register`.
pub mod Lines
pub mod Shared
pub mod Answers
pub mod Memory
pub mod Rules
pub mod Examples
