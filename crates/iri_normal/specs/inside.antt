-- What private contracts cite, and laws that an `impl` cites.
pub mod Comparison
pub mod DotSearch
pub mod Beginning
pub mod Written
pub mod NextDots
pub mod Unchanged
pub mod Kept
pub mod Parents
pub mod PathForm
pub mod SchemeRules
