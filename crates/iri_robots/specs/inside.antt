-- What private contracts cite.
pub mod Fits
pub mod Reaching
pub mod Plain
pub mod ReadLines
pub mod BestRule
pub mod Prefixes
pub mod EscapeScans
pub mod Groups
pub mod Periods
pub mod Escaped
pub mod Ends
pub mod SecondBytes
