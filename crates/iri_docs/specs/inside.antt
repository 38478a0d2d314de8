-- What private contracts cite.
pub mod Entries
