-- Targets of references.
pub mod CutTexts
pub mod Targets
pub mod PlainReferences
pub mod SchemeRules
