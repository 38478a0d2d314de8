-- The command `gen`.
pub mod References
pub mod Examples
