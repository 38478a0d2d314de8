-- The command `canon` with `to uri`: its words, and its answers to some lines.
use Rattle.std.specs.Prelude.{◌≡◌, [], ◌∷◌, codes, refl}
use Rattle.std.specs.Str.{encode_utf8_all}
use Rattle.iri_grammar.specs.Classes.{iri_tests, is_ucschar}
use Rattle.iri_percent.specs.declared.canon_mode.CanonMode.TheVariants.{Default, Scheme}
use Rattle.iri_docs.specs.OnLiterals.{on_literals}
use Rattle.iri_cli.specs.run.Ending.{answers}
use Rattle.iri_cli.specs.run.Words.{IsCommand, rules_of}
use Rattle.iri_cli.specs.to_uri.Answers.{uri_answer}
use Rattle.iri_cli.specs.declared.run.words.Command.TheVariants.{Lines}
use Rattle.iri_cli.specs.declared.run.words.Grammar.TheVariants.{Iri}
use Rattle.iri_cli.specs.declared.run.words.LineCommand.TheVariants.{ToUri}

pub words_to_uri : IsCommand (codes "canon" ∷ codes "iri" ∷ codes "to" ∷ codes "uri" ∷ []) (Lines ToUri Default Iri)
words_to_uri = (refl, tt)

pub words_by_scheme : IsCommand (codes "canon" ∷ codes "iri" ∷ codes "to" ∷ codes "uri" ∷ codes "scheme" ∷ []) (Lines ToUri Scheme Iri)
words_by_scheme = (refl, tt)

-- the IRIs of RFC 3987 section 3.1, octets that were sent as octets, and a fault
pub answers_to_some_lines : answers (rules_of ToUri iri_tests Default) (codes "http://example.org/")
    (encode_utf8_all (codes "résumé.html") ∷ codes "/ros%C3%A9/../%7Ea" ∷ encode_utf8_all (codes "//résumé.example.org") ∷ codes "#%" ∷ [])
    ≡ codes "ok http://example.org/r%C3%A9sum%C3%A9.html\n" ∷ codes "ok http://example.org/~a\n"
    ∷ codes "ok http://r%C3%A9sum%C3%A9.example.org\n" ∷ codes "bad invalid fragment\n" ∷ []
unfolding on_literals is_ucschar uri_answer
answers_to_some_lines = refl
