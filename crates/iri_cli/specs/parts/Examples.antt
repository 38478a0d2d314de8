-- The command `parts`: its words, and its answers to some lines.
use Rattle.std.specs.Prelude.{◌≡◌, [], ◌∷◌, codes, refl}
use Rattle.iri_grammar.specs.Classes.{uri_tests}
use Rattle.iri_grammar.specs.Ipv6.{is_group}
use Rattle.iri_percent.specs.declared.canon_mode.CanonMode.TheVariants.{Default, Scheme}
use Rattle.iri_docs.specs.OnLiterals.{on_literals}
use Rattle.iri_cli.specs.parts.Answers.{parts_answer}
use Rattle.iri_cli.specs.run.Ending.{answers}
use Rattle.iri_cli.specs.run.Words.{IsCommand, rules_of}
use Rattle.iri_cli.specs.declared.run.words.Command.TheVariants.{Lines}
use Rattle.iri_cli.specs.declared.run.words.Grammar.TheVariants.{Uri}
use Rattle.iri_cli.specs.declared.run.words.LineCommand.TheVariants.{Parts}

pub words_of_parts : IsCommand (codes "parts" ∷ codes "uri" ∷ []) (Lines Parts Default Uri)
words_of_parts = (refl, tt)

pub words_by_scheme : IsCommand (codes "parts" ∷ codes "uri" ∷ codes "scheme" ∷ []) (Lines Parts Scheme Uri)
words_by_scheme = (refl, tt)

-- the URI of RFC 3986 section 3, all components of an authority, empty components, none but the path, and a fault
pub answers_to_some_lines : answers (rules_of Parts uri_tests Default) (codes "x:")
    (codes "foo://example.com:8042/over/there?name=ferret#nose" ∷ codes "http://u@[::1]:8/" ∷ codes "//?#" ∷ codes "mailto:a@b" ∷ codes "#%" ∷ [])
    ≡ codes "{\"text\":\"foo://example.com:8042/over/there?name=ferret#nose\",\"scheme\":\"foo\",\"host\":\"example.com\",\"port\":\"8042\",\"path\":\"/over/there\",\"query\":\"name=ferret\",\"fragment\":\"nose\"}\n"
    ∷ codes "{\"text\":\"http://u@[::1]:8/\",\"scheme\":\"http\",\"userinfo\":\"u\",\"host\":\"[::1]\",\"port\":\"8\",\"path\":\"/\"}\n"
    ∷ codes "{\"text\":\"x://?#\",\"scheme\":\"x\",\"host\":\"\",\"path\":\"\",\"query\":\"\",\"fragment\":\"\"}\n"
    ∷ codes "{\"text\":\"mailto:a@b\",\"scheme\":\"mailto\",\"path\":\"a@b\"}\n" ∷ codes "{\"bad\":\"invalid fragment\"}\n" ∷ []
unfolding on_literals is_group parts_answer
answers_to_some_lines = refl
