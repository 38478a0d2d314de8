use Rattle.iri_cli.proofs.Common.{gen_text, rules_of, tests_of}
use Rattle.iri_cli.specs.help.Notices.{notice_text}
use Rattle.iri_cli.proofs.WriterLemmas.{after_lines, after_made, after_none, after_text}
use Rattle.iri_cli.proofs.run.to_writer.run_to_writer.Goals as goal

pub returns-clause-no_command : goal.returns-clause-no_command
returns-clause-no_command g c = λ none.
    after_none _ _ _ _ _ _ _ _ _ c.hand_on.ensures.flushes (c.run-status.ensures.no_command none)

pub returns-clause-tells : goal.returns-clause-tells
returns-clause-tells g c = λ notice is.
    after_text _ _ _ _ _ _ _ _ _ c.hand_on.ensures.flushes (notice_text notice) (c.run-status.ensures.tells notice is)

pub returns-clause-lines : goal.returns-clause-lines
returns-clause-lines g c = λ command mode grammar is.
    after_lines _ _ _ _ _ _ _ _ _ c.hand_on.ensures.flushes (rules_of command (tests_of grammar) mode)
    (c.run-status.ensures.lines command mode grammar is)

pub returns-clause-gens : goal.returns-clause-gens
returns-clause-gens g c = λ grammar count is.
    after_made _ _ _ _ _ _ _ _ _ c.hand_on.ensures.flushes (gen_text (tests_of grammar) count)
    (c.run-status.ensures.gens grammar count is)
