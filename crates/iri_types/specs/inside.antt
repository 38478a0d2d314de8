-- What private contracts cite, and laws that an `impl` cites.
pub mod AllowedLaws
pub mod KindLaws
