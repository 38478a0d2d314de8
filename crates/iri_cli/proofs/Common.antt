-- The names that several proofs of this crate cite, passed on from one place. Declares nothing.
pub use Rattle.std.proofs.Common.{◌≡◌, ℕ, List, None, Some, sym, ap, ◌∙◌, ◌≢◌, ◌+◌, ◌≤◌, [], ◌∷◌, ◌++◌, ◌&&◌, length, Bool, true, false}
pub use Rattle.std.proofs.Common.{if◌then◌else◌, Option, Result, Ok, Err, refl, subst, arith, append_assoc, length-append, ◌⊎◌, ◌-◌, take}
pub use Rattle.std.proofs.Common.{inl, inr, ⊎_elim, ◌<◌, suc, ◌^◌, not, ◌||◌, ◌==◌, map, decimal, cond, ◌↔◌, bytes_eq, drop, rules}
pub use Rattle.std.proofs.Common.{string_bytes}
pub use Rattle.std.proofs.lemmas.Bool.{and_parts as both}
pub use Rattle.std.proofs.lemmas.Bool.Decides.{nat_tests}
pub use Rattle.std.proofs.lemmas.Fmt.{length-decimal-le}
pub use Rattle.std.proofs.lemmas.List.{append-nil}
pub use Rattle.std.specs.List.{concat, list_all}
pub use Rattle.std.specs.Prelude.{OnOk, nat_lt, get_or, codes, is_some, IsSome}
pub use Rattle.std.specs.Vec.{with_items}
pub use Rattle.std.specs.declared.alloc.AllocError.{AllocError}
pub use Rattle.iri_docs.specs.Expanded.{expansion_limit}
pub use Rattle.iri_grammar.proofs.faults.FaultLaws.{absolute-law, of_bytes, reference-utf8}
pub use Rattle.iri_grammar.specs.Classes.{Tests, IsSpec}
unfoldable pub use Rattle.iri_grammar.specs.Classes.{path_char}
pub use Rattle.iri_grammar.specs.Cut.{before, lacks}
pub use Rattle.iri_grammar.specs.Fault.{bytes_fault}
pub use Rattle.iri_grammar.specs.Parts.{IsAbsolute, is_empty, starts_with_slash, starts_with_slashes, Parts, path_rules}
unfoldable pub use Rattle.iri_grammar.specs.Parts.{recompose}
unfoldable pub use Rattle.iri_grammar.specs.Split.{split_of}
pub use Rattle.iri_grammar.specs.WholeFault.{reference_fault, absolute_fault}
pub use Rattle.iri_grammar.specs.declared.error.ErrorKind.{ErrorKind}
pub use Rattle.iri_normal.specs.Answers.{answer_by, good_answer, bad_answer}
unfoldable pub use Rattle.iri_normal.specs.Answers.{answer_in}
pub use Rattle.iri_normal.specs.NormalForm.{canonical_in, canonical}
pub use Rattle.iri_normal.specs.Resolver.{base_text}
pub use Rattle.iri_percent.specs.declared.canon_mode.CanonMode.{CanonMode}
pub use Rattle.iri_robots.specs.Decided.{is_allowed}
pub use Rattle.iri_robots.specs.Stored.{record_texts}
pub use Rattle.iri_template.specs.Contexts.{value_in}
pub use Rattle.iri_template.specs.Expansion.{expansion}
pub use Rattle.iri_template.specs.HeldValues.{shown_value}
pub use Rattle.iri_template.specs.Reading.{pieces_of}
pub use Rattle.iri_template.specs.ShownValues.{optional, ShownValue, undefined}
pub use Rattle.iri_text.proofs.Puts.{Appends-none, room-then, room-so, room-same, puts-then, puts-exit}
pub use Rattle.iri_text.specs.Count.{Rose}
pub use Rattle.iri_text.specs.Line.{LineState}
pub use Rattle.iri_text.specs.Lines.{ended_lines, lines, NoLf}
pub use Rattle.iri_text.specs.Reader.{Advances}
pub use Rattle.iri_text.specs.Sink.{Appends, AppendsPrefix, KeepsRoom, SinkState, PutsAll, sink_state}
pub use Rattle.iri_text.specs.Source.{Consumes, IsAtEnd}
pub use Rattle.iri_text.specs.declared.Failed.{Failed}
pub use Rattle.iri_text.specs.declared.streams.reader.LineFault.TheVariants.{Source, LineTooLong as FaultLineTooLong}
pub use Rattle.iri_text.specs.declared.streams.reader.LineFault.TheVariants.{InputTooLong as FaultInputTooLong}
pub use Rattle.iri_types.specs.SplitText.{split_text}
unfoldable pub use Rattle.iri_cli.specs.canon.Answers.{refusal}
pub use Rattle.iri_cli.specs.canon.Rules.{canon_rules_in, is_ok}
pub use Rattle.iri_cli.specs.declared.run.answers.AnswerError.{AnswerError}
pub use Rattle.iri_cli.specs.declared.run.answers.AnswerError.TheVariants.{SinkFailed}
pub use Rattle.iri_cli.specs.declared.run.end.End.{End}
pub use Rattle.iri_cli.specs.declared.run.end.End.TheVariants.{Done, SomeBad, BadBase, SourceFailed, Memory, LineTooLong, InputTooLong}
pub use Rattle.iri_cli.specs.docs.Answers.{read_answer}
unfoldable pub use Rattle.iri_cli.specs.docs.Answers.{docs_answer}
pub use Rattle.iri_cli.specs.expand.Answers.{expansion_answer}
unfoldable pub use Rattle.iri_cli.specs.expand.Answers.{template_answer}
pub use Rattle.iri_cli.specs.expand.Lines.{Values, with_value}
pub use Rattle.iri_cli.specs.generator.References.{more_segments, gen_reference, gen_base, gen_text}
pub use Rattle.iri_cli.specs.inside.Opening.{begun}
pub use Rattle.iri_cli.specs.inside.Puts.{said_good}
pub use Rattle.iri_cli.specs.inside.RobotsAt.{IsRobotsAt}
pub use Rattle.iri_cli.specs.register.Answers.{entry_lines, more_numbers, joined}
pub use Rattle.iri_cli.specs.register.Lines.{line_of, command_of, commands_from}
unfoldable pub use Rattle.iri_cli.specs.register.Lines.{entries_after}
pub use Rattle.iri_cli.specs.robots.Answers.{answer_to, normal_base}
pub use Rattle.iri_cli.specs.robots.Rules.{robots_rules}
pub use Rattle.iri_cli.specs.inside.Answering.{Answering, AnswersLine, PutsAnswer, IsReady}
pub use Rattle.iri_cli.specs.run.Ending.{Rules, Ending, answers, answered, IsBaseTaken, ending, Passed, unless_refused, first_passed}
pub use Rattle.iri_cli.specs.run.Ending.{completed, completed_lines, stopped, ending_by, passed_from, with_base, after_fixed}
pub use Rattle.iri_cli.specs.run.Limits.{longest_line}
pub use Rattle.iri_cli.specs.inside.Read.{BeginsWith, HasRead, ReadsAll, ReadsSome, ReadsPast, IsGoing, IsOpen}
pub use Rattle.iri_cli.specs.run.Run.{outside, Finishes, Decides, StopsShort, RanTo, Ran, Outside, status_of, RunsLines, outside_state}
pub use Rattle.iri_cli.specs.run.Words.{tests_of, rules_of}
