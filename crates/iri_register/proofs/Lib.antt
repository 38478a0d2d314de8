mod Common
pub mod CommandLemmas
pub mod GroupLemmas
pub mod HashLemmas
pub mod KeyLemmas
pub mod MoveLemmas
pub mod ShareLemmas
pub mod SlotLemmas
