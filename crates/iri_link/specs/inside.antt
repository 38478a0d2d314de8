-- What private contracts cite.
pub mod CutDelimiters
pub mod Faults
pub mod KeptLinks
pub mod Pieces
pub mod PlainParams
pub mod ReadParams
pub mod ReadQuoted
pub mod Runs
pub mod ShownPieces
