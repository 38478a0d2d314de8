mod Common
pub mod SlotLemmas
pub mod LineLemmas
pub mod PairLemmas
pub mod EditLemmas
pub mod DecodingLemmas
pub mod BoundLemmas
pub mod BuildingLemmas
pub mod NameLemmas
mod FaultPartLemmas
mod FaultLemmas
