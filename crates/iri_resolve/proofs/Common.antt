-- The names that several proofs of this crate cite, passed on from one place. Declares nothing.
pub use Rattle.std.proofs.Common.{◌≡◌, ℕ, ◌-◌, true, false, cond, ◌||◌, List, [], ◌∷◌, ◌++◌, Option, Some, None, refl, sym, ◌∙◌, ap, arith}
pub use Rattle.std.proofs.Common.{subst, zero, suc, ◌<◌, Bool, ◌&&◌, length, not, length-append, ◌+◌, ◌*◌, append_assoc, ◌≤◌}
pub use Rattle.std.proofs.Math.Seq.{get_or-append_seam, set-append_seam}
pub use Rattle.std.proofs.lemmas.Bool.{not-true, eqb-true, lt-ltb, le-ltb}
pub use Rattle.std.proofs.lemmas.Bool.Decides.{nat_tests}
pub use Rattle.std.proofs.lemmas.Result.{IfOk-weaker}
pub use Rattle.std.proofs.lemmas.Slice.Eq.{bytes_eq-Decides}
pub use Rattle.std.proofs.lemmas.Str.{length-encode, IsUtf8-string_bytes}
pub use Rattle.std.specs.Char.{is_ascii_uppercase, to_ascii_lowercase, is_ascii_hexdigit, to_ascii_uppercase, encode_utf8, len_utf8}
pub use Rattle.std.specs.Prelude.{nat_lt, take, ◌==◌, drop, slice_index, slice_set, is_some, string_bytes, IsSome, IfOk, option_map, option_and_then}
pub use Rattle.std.specs.Str.{bytes_eq, IsUtf8}
unfoldable pub use Rattle.std.specs.Str.{chars}
pub use Rattle.iri_grammar.proofs.authorities.AuthorityLaws.{reading_is, passes, authority_recomposed}
pub use Rattle.iri_grammar.proofs.splits.CutLaws.{both, by_test}
pub use Rattle.iri_grammar.specs.Authority.{AuthorityParts, FitsAuthority, authority_parts, is_authority, userinfo_text}
unfoldable pub use Rattle.iri_grammar.specs.Authority.{recompose_authority}
pub use Rattle.iri_grammar.specs.Classes.{Tests, IsSpec, userinfo_char, path_char, query_char, fragment_char}
unfoldable pub use Rattle.iri_grammar.specs.Classes.{unreserved}
pub use Rattle.iri_grammar.specs.Components.{if_there, is_userinfo, is_path, is_query, is_fragment}
pub use Rattle.iri_grammar.specs.Host.{is_host}
pub use Rattle.iri_grammar.specs.OptionalSlices.{now_of}
pub use Rattle.iri_grammar.specs.Over.{text_over}
pub use Rattle.iri_grammar.specs.Parts.{path_rules, is_empty, starts_with_slash, starts_with_slashes, Parts, recompose, Fits}
pub use Rattle.iri_normal.specs.DotRemoval.{dots}
pub use Rattle.iri_normal.specs.Dots.{is_two_dots}
pub use Rattle.iri_normal.specs.DotRemoval.{guard}
unfoldable pub use Rattle.iri_normal.specs.NormalForm.{form, normal_path, normal_form}
pub use Rattle.iri_normal.specs.Resolver.{bytes_of}
pub use Rattle.iri_percent.proofs.hosts.Authorities.{part_whole}
pub use Rattle.iri_percent.proofs.forms.Cases.{is_decoded}
pub use Rattle.iri_percent.proofs.forms.Classes.{in_userinfo, other_same, in_path, in_query, in_fragment}
pub use Rattle.iri_percent.proofs.mapping.Productions.{authority-reads as reads}
pub use Rattle.iri_percent.proofs.forms.ByUnits.{normal_plain, normal_decoded, normal_nil}
pub use Rattle.iri_percent.proofs.units.WholeTriplets.{read, whole_plain}
pub use Rattle.iri_percent.proofs.forms.Seams.{leads, normal-seam, whole-percent}
pub use Rattle.iri_percent.proofs.units.AtStart.{octets_other, encode_bytes, Spells, none, more, spelled, length-spelled}
pub use Rattle.iri_percent.proofs.units.OfParts.{userinfo-whole, host-whole, userinfo_percent, lacks-whole, path-whole, query-whole}
pub use Rattle.iri_percent.proofs.units.OfParts.{fragment-whole, path_percent, query_percent, fragment_percent}
pub use Rattle.iri_percent.specs.NormalHost.{is_ascii_host, normal_authority_parts, is_dropped, normal_port, normal_userinfo}
unfoldable pub use Rattle.iri_percent.specs.NormalHost.{normal_host, normal_authority}
pub use Rattle.iri_percent.specs.Triplets.{decoded}
pub use Rattle.iri_percent.specs.SchemeRules.{dropped_port}
pub use Rattle.iri_percent.specs.Triplets.{normal, as_it_is, pct}
pub use Rattle.iri_percent.specs.Units.{octets}
unfoldable pub use Rattle.iri_percent.specs.Units.{whole_triplets}
pub use Rattle.iri_percent.specs.declared.canon_mode.CanonMode.{CanonMode}
pub use Rattle.iri_text.proofs.Compose.{shows_exit, shows_then}
pub use Rattle.iri_text.specs.Shown.{Shows}
pub use Rattle.iri_resolve.specs.Changes.{is_in_triplet, is_small_digit, with_character}
unfoldable pub use Rattle.iri_resolve.specs.Changes.{with_small_host_letter, with_small_letter, with_capital_digit, with_decoded}
pub use Rattle.iri_resolve.specs.NormalSteps.{is_port_dropped, step_if}
unfoldable pub use Rattle.iri_resolve.specs.NormalSteps.{component_steps, scheme_steps, steps_of}
pub use Rattle.iri_resolve.specs.Steps.{host_start, in_host, in_userinfo_or_host, without_empty_port}
pub use Rattle.iri_resolve.specs.Steps.{with_small_letter_in_host, without_dropped_port, with_dots_removed, with_slash, at_place}
unfoldable pub use Rattle.iri_resolve.specs.Steps.{step_in, replayed_in}
pub use Rattle.iri_resolve.specs.declared.step.Part.{Part}
pub use Rattle.iri_resolve.specs.declared.step.Part.TheVariants.{Authority, Path, Query, Fragment}
pub use Rattle.iri_resolve.specs.declared.step.Step.{Step}
pub use Rattle.iri_resolve.specs.declared.step.Step.TheVariants.{SchemeLetter, HostLetter, HexDigit, Decode, EmptyPort, Dots, DefaultPort}
pub use Rattle.iri_resolve.specs.declared.step.Step.TheVariants.{SlashPath}
pub use Rattle.iri_resolve.specs.inside.ChangeOf.{change_of}
pub use Rattle.iri_resolve.specs.inside.GuardAlone.{loses_dots}
pub use Rattle.iri_resolve.specs.inside.Reached.{Holds, WentThere, ReadOnThere, Reaches, authority_of, is_port_empty, other_than, parts_of}
pub use Rattle.iri_resolve.specs.inside.Reached.{went, IsReadThere}
