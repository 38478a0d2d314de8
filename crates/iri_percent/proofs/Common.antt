-- The names that several proofs of this crate cite, passed on from one place. Declares nothing.
pub use Rattle.std.proofs.Common.{◌≡◌, ℕ, Bool, true, List, ◌∷◌, ◌++◌, [], Option, Some, None, refl, ap, sym, suc, ◌<◌, ◌≤◌, false, cond}
pub use Rattle.std.proofs.Common.{length, get_or, ◌∙◌, subst, arith, append-nil, ltb-true, ltb-false, zero, ◌+◌, ◌-◌, ◌*◌, not, ◌&&◌, take}
pub use Rattle.std.proofs.Common.{drop, append_assoc, length-append, eqb-true, ◌||◌, take-append-drop, Ok}
pub use Rattle.std.proofs.lemmas.Bool.{lt-ltb, le-ltb, not-true, agree_below, agree_below_at}
pub use Rattle.std.proofs.lemmas.Bool.Decides.{nat_tests}
pub use Rattle.std.proofs.lemmas.Grind.{flat_map-append}
pub use Rattle.std.proofs.lemmas.List.{drop_at, map-id, take_at, take_rest}
pub use Rattle.std.proofs.lemmas.Str.{encode_ascii, length-encode, len_utf8_bounds, encodes-chars, scalars-chars, IsUtf8-from_is_utf8}
pub use Rattle.std.proofs.lemmas.Str.{IsCharBoundary-from_drop}
pub use Rattle.std.proofs.lemmas.Str.Ascii.{IsAscii-cons, IsAscii-nil}
pub use Rattle.std.specs.Char.{encode_utf8, is_ascii_hexdigit, is_ascii_uppercase, to_ascii_uppercase, to_ascii_lowercase, len_utf8}
pub use Rattle.std.specs.Char.{digit_value, is_ascii_digit}
pub use Rattle.std.specs.List.{flat_map, list_all, list_any}
pub use Rattle.std.specs.Prelude.{map, ◌==◌, nat_lt, ◌/◌, ◌%◌, option_map}
pub use Rattle.std.specs.Str.{IsUtf8, is_utf8, IsCharBoundary, IsAscii}
unfoldable pub use Rattle.std.specs.Str.{chars}
pub use lib.Dec.{ltb}
pub use lib.Utf8.{scalar, low_scalar, encodes, scalars, next}
unfoldable pub use lib.Utf8.{encode}
pub use Rattle.iri_grammar.proofs.splits.CutLaws.{both, by_test, all-lacks}
pub use Rattle.iri_grammar.proofs.units.ClassLaws.{class_has_no_percent}
pub use Rattle.iri_grammar.specs.Authority.{AuthorityParts, FitsAuthority, userinfo_text}
unfoldable pub use Rattle.iri_grammar.specs.Authority.{authority_parts, recompose_authority}
pub use Rattle.iri_grammar.specs.ClassTests.{class_test, ascii_test}
pub use Rattle.iri_grammar.specs.Classes.{Tests, IsSpec, uri_tests, iri_tests}
unfoldable pub use Rattle.iri_grammar.specs.Classes.{unreserved, is_ascii_unreserved, reg_name_char, userinfo_char, pchar, path_char}
unfoldable pub use Rattle.iri_grammar.specs.Classes.{query_char, fragment_char, is_ascii_reg_name, is_ascii_userinfo, is_ascii_pchar}
unfoldable pub use Rattle.iri_grammar.specs.Classes.{is_ascii_path, is_ascii_query, is_sub_delim}
pub use Rattle.iri_grammar.specs.Components.{if_there, is_userinfo, is_path, is_path_segment, is_query, is_fragment, is_port}
pub use Rattle.iri_grammar.specs.Cut.{delimited, before, lacks}
pub use Rattle.iri_grammar.specs.Host.{is_reg_name, is_host}
pub use Rattle.iri_grammar.specs.Over.{over, text_over, IsOver}
pub use Rattle.iri_grammar.specs.Runs.{run_of}
pub use Rattle.iri_grammar.specs.inside.Laws.{iri_is_spec}
pub use Rattle.iri_text.proofs.Compose.{shown_more, shown_exit, shows_all, HasShown}
pub use Rattle.iri_text.specs.Shown.{Shows}
pub use Rattle.iri_percent.specs.ByteForm.{normal_unit, written}
pub use Rattle.iri_percent.specs.CharUnits.{char_units, by_character, char_unit_text, plains, byte_units}
pub use Rattle.iri_percent.specs.Decoding.{Octet, Percent, fragment_bytes}
unfoldable pub use Rattle.iri_percent.specs.Decoding.{decoding, has_triplet, fragments}
pub use Rattle.iri_percent.specs.Encoding.{keeps, encoded_char}
unfoldable pub use Rattle.iri_percent.specs.Encoding.{encoded}
pub use Rattle.iri_percent.specs.FragmentViews.{fragments_left}
pub use Rattle.iri_percent.specs.Mapping.{capital_hex, triplets, triplet, mapped}
pub use Rattle.iri_percent.specs.NormalHost.{is_plain_byte}
unfoldable pub use Rattle.iri_percent.specs.NormalHost.{normal_authority, is_ascii_host, normal_host}
pub use Rattle.iri_percent.specs.Triplets.{decoded, unreserved_only, pct, as_it_is}
unfoldable pub use Rattle.iri_percent.specs.Triplets.{normal}
pub use Rattle.iri_percent.specs.Units.{octet, octets, Plain, Char, Lone, units, two_digits, TextUnit, Stray, IllFormed, triplet_unit}
pub use Rattle.iri_percent.specs.Units.{first_unit, unit_text, is_triplet, byte_unit}
unfoldable pub use Rattle.iri_percent.specs.Units.{whole_triplets, first_char, read_from}
pub use Rattle.iri_percent.specs.inside.MapRuns.{goes_on}
pub use Rattle.iri_percent.specs.inside.Octets.{char_from, is_octet}
pub use Rattle.iri_percent.specs.inside.Pieces.{case_of, stays, NoCandidate, Becomes, Gathered, Writes}
pub use Rattle.iri_percent.specs.inside.Runs.{is_other, run_text, IsPastRun}
