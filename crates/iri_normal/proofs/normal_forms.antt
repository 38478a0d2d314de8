-- Parts in normal form.
pub mod IpLiterals
pub mod Authorities
pub mod Paths
pub mod PathBeginnings
pub mod SchemeRules
pub mod PartsFit
pub mod Modes
pub mod ShownParts
pub mod Prefixes
pub mod Lengths
