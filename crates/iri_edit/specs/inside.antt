-- What private contracts cite, and laws that an `impl` cites.
pub mod BuildKinds
pub mod Places
pub mod Rules
