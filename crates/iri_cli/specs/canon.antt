-- The command `canon`.
pub mod Answers
pub mod Rules
pub mod SchemeExamples
pub mod Examples
