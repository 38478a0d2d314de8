mod Common
pub mod Parts
pub mod LinesLemmas
pub mod LimitsLemmas
mod Answered
pub mod Moved
pub mod LfBlocks
mod Steps
mod Writes
pub mod Puts
pub mod Digits
pub mod ThroughLaws
pub mod ByCharsLaws
pub mod CharSteps
pub mod Compose
