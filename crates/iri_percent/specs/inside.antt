-- What private contracts cite, and laws that an `impl` cites.
pub mod EncoderText
pub mod MapRuns
pub mod MapperText
pub mod Octets
pub mod Pieces
pub mod Runs
