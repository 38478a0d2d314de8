-- The names that several proofs of this crate cite, passed on from one place. Declares nothing.
pub use Rattle.std.proofs.Common.{◌≡◌, ◌≤◌, ◌+◌, ◌*◌, ℕ, Bool, true, false, cond, List, [], ◌∷◌, ◌++◌, Option, Some, None, length, refl, ap}
pub use Rattle.std.proofs.Common.{arith, length-append, ◌<◌, zero, suc, drop, sym, ◌∙◌, ◌-◌, take, subst, append_assoc, set}
pub use Rattle.std.proofs.lemmas.Bool.{false_from_ne_true}
pub use Rattle.std.proofs.lemmas.Grind.{common_steps}
pub use Rattle.std.proofs.lemmas.Str.{IsUtf8-from_is_utf8, is_utf8-from_IsUtf8}
pub use Rattle.std.specs.List.{flat_map}
pub use Rattle.std.specs.Str.{IsUtf8, is_utf8}
pub use Rattle.iri_grammar.proofs.splits.SplitLaws.{recompose_split, recompose_relative_split}
pub use Rattle.iri_grammar.specs.Classes.{Tests, IsSpec, iri_tests}
pub use Rattle.iri_grammar.specs.Cut.{before, delimited}
pub use Rattle.iri_grammar.specs.Fault.{bytes_fault, fragment_fault}
pub use Rattle.iri_grammar.specs.Parts.{Parts, scheme_text, authority_text}
unfoldable pub use Rattle.iri_grammar.specs.Parts.{recompose}
unfoldable pub use Rattle.iri_grammar.specs.Split.{split_of, relative_split_of}
pub use Rattle.iri_grammar.specs.WholeFault.{reference_fault, iri_fault, absolute_fault, missing_scheme_fault}
pub use Rattle.iri_grammar.specs.declared.error.ErrorKind.{ErrorKind}
pub use Rattle.iri_grammar.specs.declared.error.ErrorKind.TheVariants.{InvalidScheme, InvalidUserInfo, InvalidHost, InvalidPath}
pub use Rattle.iri_grammar.specs.declared.error.ErrorKind.TheVariants.{InvalidQuery, InvalidFragment, UnexpectedFragment}
pub use Rattle.iri_grammar.specs.declared.error.ErrorKind.TheVariants.{UnexpectedRelative, InvalidUtf8}
pub use Rattle.iri_normal.specs.Answers.{answer_by}
unfoldable pub use Rattle.iri_normal.specs.Answers.{answer_in}
pub use Rattle.iri_normal.specs.NormalForm.{canonical_in}
pub use Rattle.iri_normal.specs.Resolver.{base_text}
pub use Rattle.iri_text.specs.Lines.{no_cr, ended}
pub use Rattle.iri_types.proofs.Lemmas.{text_fault, no_text_fault}
unfoldable pub use Rattle.iri_calls.specs.Buffers.{over}
pub use Rattle.iri_calls.specs.Building.{given_by}
unfoldable pub use Rattle.iri_calls.specs.Building.{given_from}
pub use Rattle.iri_calls.specs.Encodings.{no_fault, encoded_as}
pub use Rattle.iri_calls.specs.Lines.{line_answer}
unfoldable pub use Rattle.iri_calls.specs.Lines.{batch}
pub use Rattle.iri_calls.specs.declared.status.TheConstants.{BAD_TEXT, BAD_BASE, BAD_REFERENCE}
pub use Rattle.iri_calls.specs.Outcome.{Outcome, Answered}
pub use Rattle.iri_calls.specs.Outcome.Outcome.{text}
pub use Rattle.iri_calls.specs.Outcomes.{in_grammar, unless_fault}
pub use Rattle.iri_calls.specs.Slots.{bytes_at, slots_of, width}
pub use Rattle.iri_calls.specs.inside.Five.{total}
pub use Rattle.iri_calls.specs.declared.parts.Slot.{Slot}
unfoldable pub use Rattle.iri_calls.specs.inside.Placed.{over_at}
