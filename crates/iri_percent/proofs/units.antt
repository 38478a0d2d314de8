-- The units of a text: at its start, joined, by bytes and by characters; texts with whole triplets.
pub mod AtStart
pub mod Readings
pub mod Joined
pub mod ByBytes
pub mod ByCharacters
pub mod InNormalForm
pub mod WholeTriplets
pub mod StrayPercents
pub mod AtDelimiters
pub mod OfParts
