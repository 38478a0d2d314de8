mod Common
pub mod Borrowed
pub mod ShownTexts
pub mod segments
pub mod removal
pub mod triplets
pub mod targets
pub mod normal_forms
pub mod canonical_texts
pub mod mapping
pub mod ComparedTexts
