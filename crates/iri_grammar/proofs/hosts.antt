pub mod Ipv4Octets
pub mod Ipv6Groups
pub mod Ipv6Laws
pub mod LiteralChars
pub mod PiecesLaws
