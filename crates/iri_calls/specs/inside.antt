-- What private contracts cite, and laws that an `impl` cites.
pub mod Placed
pub mod BufferText
pub mod PlacedLaws
pub mod BufferLaws
pub mod Five
pub mod Forms
