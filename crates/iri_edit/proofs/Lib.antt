mod Common
pub mod PlaceLemmas
pub mod SpliceLemmas
pub mod ShownLemmas
pub mod KindLemmas
pub mod FragmentLemmas
pub mod UserLemmas
pub mod BuiltLemmas
pub mod LawLemmas
pub mod UnchangedTexts
