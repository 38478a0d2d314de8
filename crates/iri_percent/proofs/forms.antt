-- Triplet normal form: unit by unit, what it keeps, and the changes that lead to it.
pub mod ByUnits
pub mod Stability
pub mod Cases
pub mod Classes
pub mod Seams
pub mod Changes
pub mod PlainTexts
