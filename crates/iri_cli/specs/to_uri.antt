-- The command `canon` with `to uri`.
pub mod Answers
pub mod Rules
pub mod Examples
