-- What private contracts cite, and laws that an `impl` cites.
pub mod AppendingLaws
pub mod ByChars
pub mod FormatLaws
pub mod Layout
pub mod LfSearch
pub mod Through
