-- The command `parts`.
pub mod Object
pub mod Answers
pub mod Rules
pub mod Examples
