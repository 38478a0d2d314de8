-- What private contracts cite, and laws that an `impl` cites.
pub mod ByPurpose
pub mod ByteCounts
pub mod Checked
pub mod Held
pub mod InMemory
pub mod Members
pub mod PartEnds
pub mod Parts
pub mod Pieces
pub mod Reads
pub mod Triplet
pub mod TypeHears
pub mod ValueText
pub mod WriterHears
pub mod Written
