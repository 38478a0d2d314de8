-- The definitions of the crates below, so that a caller's clauses can cite them.
pub use Rattle.iri_grammar.specs as grammar
pub use Rattle.iri_text.specs as text
pub use Rattle.iri_types.specs as types
pub use Rattle.iri_owned.specs as owned
pub use Rattle.iri_percent.specs as percent
pub use Rattle.iri_normal.specs as normal
pub use Rattle.iri_resolve.specs as steps
pub use Rattle.iri_edit.specs as edit
pub use Rattle.iri_template.specs as template
pub use Rattle.iri_register.specs as register
pub use Rattle.iri_link.specs as link
pub use Rattle.iri_robots.specs as robots
pub use Rattle.iri_docs.specs as docs
