-- The names that several proofs of this crate cite, passed on from one place. Declares nothing.
pub use Rattle.std.proofs.Common.{◌≡◌, ◌≤◌, ℕ, zero, suc, ◌+◌, ◌-◌, Bool, true, false, cond, List, [], ◌∷◌, ◌++◌, Option, Some, None}
pub use Rattle.std.proofs.Common.{length, take, drop, refl, sym, ◌∙◌, ap, subst, arith, append_assoc, append-nil, length-append, Result, Ok}
pub use Rattle.std.proofs.Common.{Err, ◌*◌, ◌||◌, ◌≢◌, ◌<◌, not, ◌&&◌, map, get_or, length-drop, IsErr, rules}
pub use Rattle.std.proofs.lemmas.Bool.{and_parts as both, ne_eqb, not-true}
pub use Rattle.std.proofs.lemmas.Bool.Decides.{nat_tests}
pub use Rattle.std.proofs.lemmas.List.{nil_from_length, drop_all}
pub use Rattle.std.proofs.lemmas.Str.{chars-nil, is_utf8-from_IsUtf8, len_utf8_bounds, IsCharBoundary-at_seam, IsCharBoundary-after_ascii}
pub use Rattle.std.specs.Char.{encode_utf8, is_ascii_hexdigit, len_utf8, is_ascii_digit}
pub use Rattle.std.specs.List.{flat_map, list_all}
pub use Rattle.std.specs.Prelude.{OnOk, ◌==◌, nat_le}
pub use Rattle.std.specs.Str.{IsUtf8, chars, is_utf8, encode_utf8_all, IsCharBoundary}
pub use Rattle.std.specs.Str.Iter.{chars_rest}
pub use Rattle.std.specs.Str.Lossy.{utf8_valid_len}
pub use denote.Ref.{Bor}
pub use denote.Shadow.{shadow}
pub use denote.Text.{Utf8}
pub use Rattle.iri_grammar.proofs.splits.CutLaws.{by_test, joined}
pub use Rattle.iri_grammar.proofs.splits.CharBoundaries.{text_after}
pub use Rattle.iri_grammar.specs.Classes.{Tests, unreserved}
unfoldable pub use Rattle.iri_grammar.specs.Classes.{any_char, is_ascii_any, is_ucschar, is_ucschar_plane, is_iprivate, is_ascii_reg_name}
unfoldable pub use Rattle.iri_grammar.specs.Classes.{is_ascii_unreserved, is_sub_delim, is_gen_delim}
pub use Rattle.iri_grammar.specs.Cut.{before, after, lacks, delimited, before_any, from_any}
pub use Rattle.iri_grammar.specs.OptionalSlices.{now_of}
pub use Rattle.iri_grammar.specs.Over.{over}
unfoldable pub use Rattle.iri_grammar.specs.Over.{over_from}
pub use Rattle.iri_grammar.specs.Pieces.{pieces}
pub use Rattle.iri_grammar.specs.Runs.{run_of}
pub use Rattle.iri_percent.specs.Encoding.{encoded_char}
unfoldable pub use Rattle.iri_percent.specs.Encoding.{encoded}
pub use Rattle.iri_percent.specs.Units.{TextUnit, units}
pub use Rattle.iri_text.proofs.CharSteps.{first_char}
pub use Rattle.std.proofs.StrCases.{chars_of_empty}
pub use Rattle.iri_text.proofs.Compose.{HasShown, shown_none, shown_more, shown_exit, shows_all, shows_then, shows_exit}
pub use Rattle.iri_text.specs.Shown.{AreSinkLaws, Shows}
pub use Rattle.iri_text.specs.declared.shown.show.Stop.{Stop}
pub use Rattle.iri_text.specs.inside.Through.{texts}
pub use Rattle.iri_template.specs.Events.{Item, entry_of, ListBegun, PairsBegun, pair_text}
pub use Rattle.iri_template.specs.Expansion.{kept_unit, row_of, value_texts, limited, shown_text, led}
pub use Rattle.iri_template.specs.Fault.{fault, moved, first, varspecs_fault, text_fault, template_fault, operator_fault, triplet_fault}
pub use Rattle.iri_template.specs.Fault.{piece_fault, unless, fault_at, modifier_fault}
unfoldable pub use Rattle.iri_template.specs.Fault.{varspec_fault, fault_from}
unfoldable pub use Rattle.iri_template.specs.Names.{is_name_char, is_varname}
pub use Rattle.iri_template.specs.Portions.{Portion, outside, varspec_portions, portions_from, portions, portions_fault, portions_text}
pub use Rattle.iri_template.specs.Portions.{calls_in}
pub use Rattle.iri_template.specs.Reading.{operator_at, operator_of, after_operator, varspec_of, expression_of, body_of, first_of}
pub use Rattle.iri_template.specs.Reading.{pieces_of, name_of, piece_len, ends_name}
unfoldable pub use Rattle.iri_template.specs.Reading.{pieces_from}
pub use Rattle.iri_template.specs.ShownValues.{ShownValue, undefined, string, list, pairs}
pub use Rattle.iri_template.specs.Tells.{Telling, later, always, WhereTold, MovesBy}
pub use Rattle.iri_template.specs.Template.{Modifier, whole, explode, prefix, VarSpec, Piece, literal, triplet, expression, operator_text}
pub use Rattle.iri_template.specs.Template.{has_some, varspec_text, piece_text, literal_char, is_varspec, modifier_text, template_text}
pub use Rattle.iri_template.specs.Template.{names_of}
pub use Rattle.iri_template.specs.Texts.{text}
pub use Rattle.iri_template.specs.TypeFaults.{is_mistyped, placed_type_fault, type_fault}
pub use Rattle.iri_template.specs.Writings.{StopsAt, IsRefused, EndsAs, CallsUpTo}
pub use Rattle.iri_template.specs.declared.error.Error.{Error}
pub use Rattle.iri_template.specs.declared.error.ErrorKind.TheVariants.{InvalidUtf8, WriteFailed, ExpressionNotClosed, InvalidCharacter}
pub use Rattle.iri_template.specs.declared.error.ErrorKind.TheVariants.{InvalidExpression, InvalidPercentEncoding, UnexpectedValueType}
pub use Rattle.iri_template.specs.declared.error.ErrorKind.TheVariants.{UnsupportedOperator, Memory}
pub use Rattle.iri_template.specs.declared.operator.Operator.{Operator}
pub use Rattle.iri_template.specs.declared.operator.Operator.TheVariants.{Simple, Reserved, Fragment, Label, PathSegment, PathParameter}
pub use Rattle.iri_template.specs.declared.operator.Operator.TheVariants.{FormQuery, FormContinuation}
pub use Rattle.iri_template.specs.declared.visitor.Phase.TheVariants.{Done, InPairs, InList}
pub use Rattle.iri_template.specs.declared.visitor.VisitPurpose.TheVariants.{Typecheck, Expand}
pub use Rattle.iri_template.specs.inside.ByPurpose.{by_purpose, untold}
pub use Rattle.iri_template.specs.inside.Triplet.{begins_triplet}
pub use Rattle.iri_template.specs.inside.Held.{fewer, is_used_up, written_units, written_chars, stays, is_begun, goes_on, held_unit, unit_len}
pub use Rattle.iri_template.specs.inside.Parts.{part_pieces}
pub use Rattle.iri_template.specs.inside.Reads.{IsHeld, Reads, kept_rest}
pub use Rattle.iri_template.specs.inside.Written.{WriteState, event_step, event_text}
