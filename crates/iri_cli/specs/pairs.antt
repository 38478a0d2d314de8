-- The command `pairs`.
pub mod Rules
pub mod OfCanon
pub mod Examples
