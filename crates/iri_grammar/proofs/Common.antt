-- The names that several proofs of this crate cite, passed on from one place. Declares nothing.
pub use Rattle.std.proofs.Common.{◌≡◌, ℕ, [], ◌∷◌, ◌∙◌, List, Option, Some, None, MatchOption, false, ap, arith, subst, sym, ◌↔◌, true}
pub use Rattle.std.proofs.Common.{cond, not, ◌&&◌, ◌||◌, ◌++◌, refl, append_assoc, append-nil, zero, suc, ◌<◌, Bool, ◌≤◌, inl, inr, ◌+◌}
pub use Rattle.std.proofs.Common.{◌/◌, ◌≢◌, length, add-one, take, drop, get_or, length-append, ◌-◌, bit_and}
pub use Rattle.std.proofs.Math.Bool.{and-false, or-true}
pub use Rattle.std.proofs.Math.Seq.{take-append_seam, take-add, drop-append_seam}
pub use Rattle.std.proofs.lemmas.Bool.{cases_lt, eqb-true, false_from_ne_true, cases_eq, ne_eqb, agree_below, agree_below_at}
pub use Rattle.std.proofs.lemmas.Bool.{and_parts as both, not-true, and_parts}
pub use Rattle.std.proofs.lemmas.Bool.Decides.{nat_tests}
pub use Rattle.std.proofs.lemmas.List.{drop-drop, get_or-map, length-drop, length-map, take_all, take_rest}
pub use Rattle.std.proofs.lemmas.Simd.{zip2_splat}
pub use Rattle.std.proofs.lemmas.Str.{IsUtf8-from_is_utf8, IsUtf8-from_ascii, IsUtf8-append, IsUtf8-drop, IsUtf8-take, is_utf8-from_IsUtf8}
pub use Rattle.std.proofs.lemmas.Str.{IsCharBoundary-from_take, lead_after_ascii}
pub use Rattle.std.specs.Char.{is_ascii_digit, is_ascii_hexdigit, encode_utf8}
pub use Rattle.std.specs.List.{list_all, prefix_len}
pub use Rattle.std.specs.Prelude.{◌==◌, is_some, slice_index, nat_lt, IsSome, IsNone, ◌*◌}
pub use Rattle.std.specs.Str.{IsUtf8}
unfoldable pub use Rattle.std.specs.Str.{is_utf8, chars}
pub use Rattle.iri_grammar.specs.Authority.{userinfo_text, userinfo_of, after_userinfo, host_of, port_of, or_all}
unfoldable pub use Rattle.iri_grammar.specs.Authority.{recompose_authority, authority_parts, is_authority}
pub use Rattle.iri_grammar.specs.ClassTests.{class_test, ascii_test, rank_of}
pub use Rattle.iri_grammar.specs.Classes.{Tests, IsSpec}
unfoldable pub use Rattle.iri_grammar.specs.Classes.{userinfo_char, reg_name_char, is_ascii_userinfo, is_ascii_reg_name}
unfoldable pub use Rattle.iri_grammar.specs.Classes.{is_ascii_unreserved, is_sub_delim, is_ascii_pchar, is_ascii_path, is_ascii_query}
unfoldable pub use Rattle.iri_grammar.specs.Classes.{is_ascii_any, is_gen_delim, path_char, query_char, fragment_char}
pub use Rattle.iri_grammar.specs.Components.{is_userinfo, is_port, if_there, is_scheme, is_query, is_fragment}
unfoldable pub use Rattle.iri_grammar.specs.Components.{is_letter, is_scheme_char}
pub use Rattle.iri_grammar.specs.Cut.{before, after, lacks, delimited, from, begins, tail, before_any, from_any}
pub use Rattle.iri_grammar.specs.Fault.{first, unless, part_fault, authority_fault, query_fault, fragment_fault, bytes_fault, Answers}
pub use Rattle.iri_grammar.specs.Host.{is_host, is_reg_name}
pub use Rattle.iri_grammar.specs.IpLiteral.{is_end, is_ip_literal, is_ipvfuture}
pub use Rattle.iri_grammar.specs.Ipv4.{is_ipv4, is_dec_octet, are_four_octets}
pub use Rattle.iri_grammar.specs.Ipv6.{are_groups, are_groups_or_ipv4, group_count}
unfoldable pub use Rattle.iri_grammar.specs.Ipv6.{is_group}
pub use Rattle.iri_grammar.specs.Ipv6Test.{is_ipv6, before_double, after_double, group_texts, is_ipv6_around}
pub use Rattle.iri_grammar.specs.OptionalSlices.{now_of}
pub use Rattle.iri_grammar.specs.Over.{over, text_over}
unfoldable pub use Rattle.iri_grammar.specs.Over.{over_from}
pub use Rattle.iri_grammar.specs.Parts.{starts_with_slash, starts_with_slashes, Parts, Fits, Splits, IsReference, IsIri, IsAbsolute}
pub use Rattle.iri_grammar.specs.Parts.{IsRelative, path_rules, is_empty, scheme_text, authority_text}
unfoldable pub use Rattle.iri_grammar.specs.Parts.{recompose}
pub use Rattle.iri_grammar.specs.Pieces.{pieces, onto}
pub use Rattle.iri_grammar.specs.Runs.{run_of}
pub use Rattle.iri_grammar.specs.Seen.{has_slash_and_dot, slash_and_dot, is_small}
unfoldable pub use Rattle.iri_grammar.specs.Seen.{is_plain_authority}
pub use Rattle.iri_grammar.specs.Split.{authority_of, hier_of, parts_of, scheme_of, after_scheme, path_of}
unfoldable pub use Rattle.iri_grammar.specs.Split.{split_of, relative_split_of}
pub use Rattle.iri_grammar.specs.Splitters.{parts}
pub use Rattle.iri_grammar.specs.WholeFault.{colon_allowed, reference_fault, iri_fault}
unfoldable pub use Rattle.iri_grammar.specs.WholeFault.{fault_before_fragment, parts_fault}
pub use Rattle.iri_grammar.specs.declared.class.Class.{Class}
pub use Rattle.iri_grammar.specs.declared.class.Class.TheVariants.{Unreserved, RegName, Userinfo, Pchar, Path, Query, Fragment, Any}
pub use Rattle.iri_grammar.specs.declared.error.ErrorKind.{ErrorKind}
pub use Rattle.iri_grammar.specs.declared.error.ErrorKind.TheVariants.{InvalidPath, InvalidQuery, InvalidFragment, UnexpectedFragment}
pub use Rattle.iri_grammar.specs.declared.error.ErrorKind.TheVariants.{InvalidUtf8}
pub use Rattle.iri_grammar.specs.inside.Delimiters.{ends_authority, IsPastAuthority, SchemeAt, ends_at_start}
unfoldable pub use Rattle.iri_grammar.specs.inside.Delimiters.{ends_scheme}
pub use Rattle.iri_grammar.specs.inside.Halves.{high_bit, low_bits, row_test}
pub use Rattle.iri_grammar.specs.inside.Ipv6Reading.{is_whole, is_whole_around, completes}
pub use Rattle.iri_grammar.specs.inside.PiecesLaws.{more_pieces}
pub use Rattle.iri_grammar.specs.inside.PlainAuthority.{is_small_name, name_len}
pub use Rattle.iri_grammar.specs.inside.Runs.{HasNoUnit, begins_with_triplet, AreUnits}
pub use Rattle.iri_grammar.specs.inside.Tails.{AreOver}
