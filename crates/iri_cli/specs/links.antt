-- The command `links`.
pub mod Answers
pub mod Rules
pub mod FieldValues
pub mod Examples
