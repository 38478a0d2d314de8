-- The names that several proofs of this crate cite, passed on from one place. Declares nothing.
pub use Rattle.memchr.specs.Find.{is_byte, IsLastByte}
pub use Rattle.std.proofs.Common.{◌≡◌, ℕ, true, false, cond, ◌||◌, List, [], ◌∷◌, ◌++◌, Option, Some, None, map, refl, sym, ◌∙◌, ap}
pub use Rattle.std.proofs.Common.{append-nil, Bool, not, ◌&&◌, Ok, subst, ◌+◌, length, take, drop, ◌≤◌, ◌<◌, arith, zero, suc, ◌-◌}
pub use Rattle.std.proofs.Common.{append_assoc, length-append}
pub use Rattle.std.proofs.Math.Bool.{or-true, or-false, and-false}
pub use Rattle.std.proofs.Math.Logic.{∥∥₁_elim}
pub use Rattle.std.proofs.Math.Seq.{take-append_seam}
pub use Rattle.std.proofs.Math.Utf8.{low_scalar}
pub use Rattle.std.proofs.Props.{props}
pub use Rattle.std.proofs.lemmas.Bool.{or_parts, eq-eqb, eqb-true, lt-ltb, ltb-true, not-true}
pub use Rattle.std.proofs.lemmas.Bool.Decides.{nat_tests}
pub use Rattle.std.proofs.lemmas.Grind.{common_steps}
pub use Rattle.std.proofs.lemmas.List.{take-append-drop, drop_at, length-take-le, length-map}
pub use Rattle.std.proofs.lemmas.Str.{encode_ascii, lead_after_ascii}
pub use Rattle.std.specs.Char.{to_ascii_lowercase, is_ascii_hexdigit, to_ascii_uppercase, encode_utf8}
pub use Rattle.std.specs.List.{list_all, count_by}
pub use Rattle.std.specs.Prelude.{unwrap_or, nat_lt, ◌==◌, string_bytes, option_map, IsSome, Result, Err, MatchOption, slice_index, is_some}
pub use Rattle.std.specs.Str.{bytes_eq, IsUtf8, IsCharBoundary}
pub use denote.Ref.{Bor}
unfoldable pub use lib.Utf8.{encode}
pub use Rattle.iri_grammar.proofs.splits.CutLaws.{by_test, joined, both, test_apart, lacks-append, lacks-other}
pub use Rattle.iri_grammar.proofs.faults.FaultLaws.{absolute-law, reference-law, iri-law}
pub use Rattle.iri_grammar.proofs.hosts.PiecesLaws.{pieces_cut, after_shorter}
pub use Rattle.iri_grammar.proofs.splits.SplitLaws.{scheme-chars, recompose_split}
pub use Rattle.iri_grammar.proofs.splits.SplitUnique.{split_is}
pub use Rattle.iri_grammar.proofs.units.UnitRuns.{text_over-append, nothing_over}
pub use Rattle.iri_grammar.specs.Authority.{AuthorityParts, authority_parts, is_authority}
unfoldable pub use Rattle.iri_grammar.specs.Authority.{recompose_authority}
pub use Rattle.iri_grammar.specs.Classes.{Tests, IsSpec}
unfoldable pub use Rattle.iri_grammar.specs.Classes.{path_char, reg_name_char, is_ascii_reg_name, is_ascii_unreserved, is_sub_delim}
unfoldable pub use Rattle.iri_grammar.specs.Classes.{unreserved, is_ascii_userinfo, is_ascii_path, is_ascii_pchar}
pub use Rattle.iri_grammar.specs.Components.{is_userinfo, is_port, if_there, is_scheme, is_path, is_query, is_fragment}
unfoldable pub use Rattle.iri_grammar.specs.Components.{is_scheme_char}
pub use Rattle.iri_grammar.specs.Cut.{before, after, lacks, delimited}
pub use Rattle.iri_grammar.specs.Host.{is_host, is_reg_name}
pub use Rattle.iri_grammar.specs.IpLiteral.{is_ip_literal}
pub use Rattle.iri_grammar.specs.OptionalSlices.{now_of}
pub use Rattle.iri_grammar.specs.Over.{text_over}
pub use Rattle.iri_grammar.specs.Parts.{starts_with_slashes, Parts, Fits, Splits, IsReference, IsAbsolute, is_empty, path_rules}
pub use Rattle.iri_grammar.specs.Parts.{scheme_text, authority_text, starts_with_slash}
unfoldable pub use Rattle.iri_grammar.specs.Parts.{recompose}
pub use Rattle.iri_grammar.specs.Pieces.{pieces, onto}
pub use Rattle.iri_grammar.specs.Seen.{may_have_dots}
pub use Rattle.iri_grammar.specs.Split.{split_of}
pub use Rattle.iri_grammar.specs.Splitters.{parts}
pub use Rattle.iri_grammar.specs.WholeFault.{absolute_fault, reference_fault, iri_fault}
pub use Rattle.iri_grammar.specs.inside.PiecesLaws.{more_pieces}
pub use Rattle.iri_percent.proofs.hosts.Authorities.{authority_in}
pub use Rattle.iri_percent.proofs.forms.Classes.{IsText, ended, letter, over-from_text, pct-path}
pub use Rattle.iri_percent.proofs.units.AtDelimiters.{pct_delimiter, slash}
pub use Rattle.iri_percent.proofs.forms.ByUnits.{normal_nil, normal_plain, normal_lone, normal_char}
pub use Rattle.iri_percent.proofs.units.WholeTriplets.{Reading, done, plain, char, lone, read, whole_plain}
pub use Rattle.iri_percent.proofs.forms.Stability.{pct-stable, as_it_is-case, lower-case, upper_hex, upper_octet}
pub use Rattle.iri_percent.proofs.units.AtStart.{Spells, none, more}
pub use Rattle.iri_percent.proofs.units.OfParts.{userinfo-whole, host-whole, query-whole, fragment-whole, reg_name_percent, path-whole}
pub use Rattle.iri_percent.proofs.units.OfParts.{path_percent}
pub use Rattle.iri_percent.specs.NormalHost.{is_dropped, normal_userinfo, normal_port_in, normal_authority_parts_in, normal_authority_in}
unfoldable pub use Rattle.iri_percent.specs.NormalHost.{is_ascii_host, normal_host, normal_authority}
pub use Rattle.iri_percent.specs.SchemeRules.{dropped_port}
unfoldable pub use Rattle.iri_percent.specs.SchemeRules.{default_port}
pub use Rattle.iri_percent.specs.Triplets.{pct, as_it_is}
unfoldable pub use Rattle.iri_percent.specs.Triplets.{normal}
pub use Rattle.iri_percent.specs.Units.{octet, two_digits}
unfoldable pub use Rattle.iri_percent.specs.Units.{whole_triplets}
pub use Rattle.iri_percent.specs.declared.canon_mode.CanonMode.{CanonMode}
pub use Rattle.iri_percent.specs.declared.canon_mode.CanonMode.TheVariants.{Default, Scheme}
pub use Rattle.iri_text.proofs.Compose.{shows_exit, shows_then, shown_none, shows_all}
pub use Rattle.iri_text.specs.Shown.{Shows}
pub use Rattle.iri_types.specs.SplitText.{split_text}
pub use Rattle.iri_normal.specs.DotRemoval.{without_last, closed, remove_after, remove_dots, path_text, guard}
pub use Rattle.iri_normal.specs.Dots.{is_two_dots, is_all, is_one_dot, is_one_dot_after, after_dot, any_dot_segment, has_dot_segment}
unfoldable pub use Rattle.iri_normal.specs.DotRemoval.{dots}
unfoldable pub use Rattle.iri_normal.specs.Dots.{is_dot_segment}
pub use Rattle.iri_normal.specs.NormalForm.{lowered, normal_form_in, canonical_parts_in, canonical_in, becomes_slash}
pub use Rattle.iri_normal.specs.NormalForm.{slash_or, part_in, preserved_path, path_in}
pub use Rattle.iri_normal.specs.Modes.{mode_of, is_normalizing}
unfoldable pub use Rattle.iri_normal.specs.NormalForm.{canonical, normal_form, normal_path, form}
pub use Rattle.iri_normal.specs.Prefix.{IsPrefix, prefix_in}
pub use Rattle.iri_normal.specs.Resolver.{base_text}
pub use Rattle.iri_normal.specs.Slices.{slices, merged}
pub use Rattle.iri_normal.specs.Target.{target_under, ends_at_slash, last_segment, target_path, merge_prefix, to_last_slash}
pub use Rattle.iri_normal.specs.Target.{takes_base_path}
unfoldable pub use Rattle.iri_normal.specs.Target.{target}
pub use Rattle.iri_normal.specs.declared.mode.Mode.{Mode}
pub use Rattle.iri_normal.specs.declared.mode.Mode.TheVariants.{Plain, Normal, Preserving, ByScheme}
pub use Rattle.iri_normal.specs.inside.DotSearch.{dots_before, slash_and_dots, dots_after}
pub use Rattle.iri_normal.specs.inside.Kept.{kept, taken}
pub use Rattle.iri_normal.specs.inside.PathForm.{in_form}
pub use Rattle.iri_normal.specs.inside.Written.{left, popped, popped_times, written, written_segments}
