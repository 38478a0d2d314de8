-- The command `expand`.
pub mod Lines
pub mod Answers
pub mod Rules
pub mod Examples
