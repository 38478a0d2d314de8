-- The names that several proofs of this crate cite, passed on from one place. Declares nothing.
pub use Rattle.std.proofs.Common.{◌≡◌, ℕ, Bool, true, false, cond, List, [], Option, Some, None, refl, sym, ◌∙◌, ap, ◌+◌, ◌-◌, ◌≤◌, ◌∷◌}
pub use Rattle.std.proofs.Common.{◌++◌, length, take, drop, subst, append_assoc, length-append, arith}
pub use Rattle.std.proofs.lemmas.List.{append-nil}
pub use Rattle.std.specs.Prelude.{◌&&◌, ◌||◌, is_some, not, slice_range, IfOk, string_bytes}
pub use Rattle.std.specs.Str.{IsCharBoundary}
unfoldable pub use Rattle.std.specs.Str.{chars, is_utf8}
pub use Rattle.iri_grammar.proofs.authorities.AuthorityLaws.{reads, authority_recomposed}
pub use Rattle.iri_grammar.proofs.splits.CutLaws.{both, joined}
pub use Rattle.iri_grammar.specs.Authority.{is_authority, AuthorityParts, FitsAuthority, authority_parts, userinfo_text}
unfoldable pub use Rattle.iri_grammar.specs.Authority.{recompose_authority}
pub use Rattle.iri_grammar.specs.Classes.{Tests, IsSpec}
pub use Rattle.iri_grammar.specs.Components.{if_there, is_userinfo, is_fragment}
pub use Rattle.iri_grammar.specs.Cut.{before, after, delimited, lacks}
pub use Rattle.iri_grammar.specs.Host.{is_host}
unfoldable pub use Rattle.iri_grammar.specs.Over.{over_from}
pub use Rattle.iri_grammar.specs.Parts.{Fits, path_rules, scheme_text, authority_text}
unfoldable pub use Rattle.iri_grammar.specs.Parts.{recompose}
pub use Rattle.iri_grammar.specs.Split.{split_of}
pub use Rattle.iri_grammar.specs.WholeFault.{reference_fault}
pub use Rattle.iri_grammar.specs.declared.error.ErrorKind.{ErrorKind}
pub use Rattle.iri_owned.specs.Spliced.{spliced}
pub use Rattle.iri_types.specs.Texts.{text}
pub use Rattle.iri_edit.specs.Builders.{given}
pub use Rattle.iri_edit.specs.Built.{Given, given_authority}
pub use Rattle.iri_edit.specs.Edited.{edited_authority, edited_parts}
unfoldable pub use Rattle.iri_edit.specs.Edited.{edited}
pub use Rattle.iri_edit.specs.Fragment.{fragment_replaced}
unfoldable pub use Rattle.iri_edit.specs.Fragment.{with_fragment}
pub use Rattle.iri_edit.specs.Host.{host_replaced, with_host, is_replaced}
pub use Rattle.iri_edit.specs.Password.{masked, user_alone, user_with, with_password, with_userinfo, without_password}
pub use Rattle.iri_edit.specs.Password.{password_in, userinfo_in}
unfoldable pub use Rattle.iri_edit.specs.Password.{password_of}
pub use Rattle.iri_edit.specs.inside.Places.{IsFragmentAt, IsAuthorityAt, IsPasswordAt, IsHostAt}
