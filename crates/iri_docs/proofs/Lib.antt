mod Common
pub mod StepLemmas
pub mod NameLemmas
pub mod FaultLemmas
pub mod ExpandLemmas
