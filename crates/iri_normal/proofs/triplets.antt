-- Triplets of a path, and dot removal.
pub mod DotTriplets
pub mod PathTriplets
