pub mod OwnedText
pub mod Laws
pub mod Refusals
pub mod Spliced
pub mod Examples
