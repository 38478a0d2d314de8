pub mod AuthorityCuts
pub mod AuthorityLaws
pub mod AuthorityTexts
pub mod LastColons
pub mod PlainAuthorities
