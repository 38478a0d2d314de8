-- The names that several proofs of this crate cite, passed on from one place. Declares nothing.
pub use Rattle.std.proofs.Common.{◌≡◌, ℕ, List, cond, Some, Ok, sym, ap, ◌∙◌, subst, zero, suc, ◌+◌, ◌-◌, ◌<◌, Bool, true, false, [], ◌∷◌}
pub use Rattle.std.proofs.Common.{◌++◌, Option, None, length, take, drop, refl, arith, ◌&&◌, inl, inr, append_assoc, ◌≤◌, map, not, get_or}
pub use Rattle.std.proofs.Common.{rules, string_bytes}
pub use Rattle.std.proofs.Math.Seq.{drop-cons}
pub use Rattle.std.proofs.lemmas.Bool.{false_from_ne_true, and_parts as both, cases_lt, eqb-true}
pub use Rattle.std.proofs.lemmas.Bool.Decides.{nat_tests}
pub use Rattle.std.proofs.lemmas.List.{append-nil, map-append, drop_all}
pub use Rattle.std.proofs.lemmas.List.Elements.{All-cons, All-nil, All-append, All-head, All-tail}
pub use Rattle.std.proofs.lemmas.Str.{is_utf8-from_IsUtf8, IsUtf8-from_is_utf8, IsUtf8-nil, IsUtf8-append, IsCharBoundary-after_ascii}
pub use Rattle.std.specs.List.{list_all, All, flat_map}
pub use Rattle.std.specs.Prelude.{Result, Err, MatchResult, ◌==◌, ◌||◌, slice_index}
pub use Rattle.std.specs.Str.{is_utf8, IsUtf8, str_to_ascii_lowercase, IsCharBoundary}
pub use denote.Shadow.{shadow}
pub use denote.Text.{Utf8}
pub use Rattle.iri_grammar.proofs.authorities.AuthorityTexts.{delimited-utf8}
pub use Rattle.iri_grammar.proofs.splits.CutLaws.{by_test, test_apart}
pub use Rattle.iri_grammar.specs.Blanks.{is_blank}
pub use Rattle.iri_grammar.specs.Classes.{Tests, IsSpec}
pub use Rattle.iri_grammar.specs.Cut.{before, lacks, after, delimited}
pub use Rattle.iri_grammar.specs.OptionalSlices.{now_of}
pub use Rattle.iri_grammar.specs.Runs.{run_of}
pub use Rattle.iri_grammar.specs.WholeFault.{reference_fault}
pub use Rattle.iri_grammar.specs.inside.Runs.{first_passes}
pub use Rattle.iri_percent.specs.declared.canon_mode.CanonMode.{CanonMode}
pub use Rattle.iri_normal.specs.Resolver.{base_text}
pub use Rattle.iri_link.specs.Fault.{field_fault, place_in, target_fault, earlier}
unfoldable pub use Rattle.iri_link.specs.Fault.{fault_from, closes_from}
pub use Rattle.iri_link.specs.Field.{LinkValue, LinkParam, IsValue, token, quoted, IsParam, bare, valued, IsParams, none, empty, param}
pub use Rattle.iri_link.specs.Field.{IsLink, link, IsElement, empty as no_element, link as element, IsField, last}
pub use Rattle.iri_link.specs.Field.{more}
pub use Rattle.iri_link.specs.Links.{HasLinks, HasReference}
pub use Rattle.iri_link.specs.Phases.{before_link, in_target, after_param, after_semicolon, in_name, after_name, after_equals, in_token}
pub use Rattle.iri_link.specs.Phases.{in_quoted, Phase}
pub use Rattle.iri_link.specs.Resolved.{IsReadIn, resolved_in}
pub use Rattle.iri_link.specs.Stored.{param_of, link_of, links_of}
pub use Rattle.iri_link.specs.Token.{is_pair_char, is_plain_char, is_blanks, is_token_char, is_token, IsQuoted, done, plain, pair}
pub use Rattle.iri_link.specs.Written.{escaped, written_param, written_link, written}
pub use Rattle.iri_link.specs.inside.ReadQuoted.{unquoted}
unfoldable pub use Rattle.iri_link.specs.inside.ReadQuoted.{quoted_len, unquoted_from}
pub use Rattle.iri_link.specs.inside.Runs.{IsRun, run_test}
