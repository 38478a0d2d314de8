mod Common
pub mod Ranges
pub mod hosts
pub mod authorities
pub mod units
pub mod splits
pub mod faults
