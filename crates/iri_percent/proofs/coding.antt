-- Encoding and decoding.
pub mod EncodedRuns
pub mod SpelledTriplets
pub mod Fragments
pub mod DecodedAgain
