-- Characters in octets, and hex digits.
pub mod Spellings
pub mod HexDigits
