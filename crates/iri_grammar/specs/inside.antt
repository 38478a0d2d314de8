-- What private contracts cite, and laws that an `impl` cites.
pub mod CutNotes
pub mod Halves
pub mod Ipv6Reading
pub mod LastColon
pub mod Laws
pub mod Delimiters
pub mod PiecesLaws
pub mod PlainAuthority
pub mod Runs
pub mod Scans
pub mod Tails
