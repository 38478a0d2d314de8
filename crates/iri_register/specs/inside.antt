-- What private contracts cite.
pub mod Keys
pub mod Moved
pub mod Places
pub mod Slots
