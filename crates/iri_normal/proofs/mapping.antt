-- Normal forms and the mapping to URIs.
pub mod MappedPaths
pub mod MappedForms
pub mod MappedCanonical
