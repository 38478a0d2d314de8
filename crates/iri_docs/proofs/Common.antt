-- The names that several proofs of this crate cite, passed on from one place. Declares nothing.
pub use Rattle.serde_json.specs.View.{members_view, view, items_view}
pub use Rattle.std.proofs.Common.{◌≡◌, ◌∙◌, ℕ, List, Ok, Err, if◌then◌else◌, refl, sym, ap, [], ◌∷◌, ◌++◌, bytes_eq, string_bytes, drop}
pub use Rattle.std.specs.Result.{result_err}
pub use Rattle.iri_template.specs.Contexts.{value_in}
pub use Rattle.iri_template.specs.ShownValues.{ShownValue}
pub use Rattle.iri_docs.specs.Answered.{AnswersBut}
pub use Rattle.iri_docs.specs.Documents.{followed, result_map, variable, variables, inner_texts, inner_pairs, value_by_name}
pub use Rattle.iri_docs.specs.Expanded.{expanded, expansion_within, IsExpanded}
pub use Rattle.iri_docs.specs.declared.expand_error.DocExpandError.TheVariants.{Template, TooLong, Memory}
