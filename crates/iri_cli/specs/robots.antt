-- The command `robots`.
pub mod Lines
pub mod Answers
pub mod Memory
pub mod Rules
pub mod Verdicts
pub mod Examples
