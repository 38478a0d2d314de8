-- The mapping of IRIs to URIs.
pub mod Texts
pub mod NormalForms
pub mod Productions
pub mod Delimiters
pub mod Runs
