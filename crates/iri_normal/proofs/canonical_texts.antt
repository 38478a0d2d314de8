-- Canonical texts.
pub mod CanonicalTexts
pub mod WrittenTexts
