mod Common
pub mod units
pub mod forms
pub mod hosts
pub mod characters
pub mod coding
pub mod mapping
