pub mod ThroughEach
pub mod PlainChars
