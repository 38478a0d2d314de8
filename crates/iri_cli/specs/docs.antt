-- The command `docs`.
pub mod Answers
pub mod Rules
pub mod Expansions
pub mod Examples
