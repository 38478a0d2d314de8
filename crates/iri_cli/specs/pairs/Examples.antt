-- The command `pairs`, worked on small inputs (RFC 3986 section 5.4.1).
use Rattle.std.specs.Prelude.{◌≡◌, [], ◌∷◌, codes, refl}
use Rattle.std.specs.Str.{encode_utf8_all}
use Rattle.iri_grammar.specs.Classes.{iri_tests, is_ucschar, uri_tests}
use Rattle.iri_percent.specs.declared.canon_mode.CanonMode.TheVariants.{Default, Scheme}
use Rattle.iri_normal.specs.Pairs.{pairs_answer}
use Rattle.iri_docs.specs.OnLiterals.{on_literals}
use Rattle.iri_cli.specs.canon.Answers.{refusal}
use Rattle.iri_cli.specs.pairs.Rules.{pair_uri_answer, pairs_rules, pairs_to_uri_rules}
use Rattle.iri_cli.specs.run.Ending.{answers, ending}
use Rattle.iri_cli.specs.run.Words.{IsCommand}
use Rattle.iri_cli.specs.declared.run.words.Command.TheVariants.{Lines}
use Rattle.iri_cli.specs.declared.run.words.Grammar.TheVariants.{Iri, Uri}
use Rattle.iri_cli.specs.declared.run.words.LineCommand.TheVariants.{Pairs, PairsToUri}
use Rattle.iri_cli.specs.to_uri.Answers.{uri_answer}

pub words_by_scheme : IsCommand (codes "pairs" ∷ codes "uri" ∷ codes "scheme" ∷ []) (Lines Pairs Scheme Uri)
words_by_scheme = (refl, tt)

pub words_to_uri : IsCommand (codes "pairs" ∷ codes "iri" ∷ codes "to" ∷ codes "uri" ∷ []) (Lines PairsToUri Default Iri)
words_to_uri = (refl, tt)

-- Each line is answered against its own page. A second tab is a fault of the link, a page may be refused, and there may be no tab.
pub answers_to_some_lines : answers (pairs_rules uri_tests Default) (codes "a:")
    (codes "http://a/b/c/d;p?q\tg" ∷ codes "http://a/b/c/d;p?q\t../../g" ∷ codes "http://H/x\tg" ∷ codes "http://a/\t\tg" ∷ codes "//a\tg"
    ∷ codes "http://a/b" ∷ [])
    ≡ codes "ok http://a/b/c/g\n" ∷ codes "ok http://a/g\n" ∷ codes "ok http://h/g\n" ∷ codes "bad invalid path\n"
    ∷ codes "base expected an absolute IRI but got a relative IRI\n" ∷ codes "bad line\n" ∷ []
unfolding on_literals pairs_answer
answers_to_some_lines = refl

-- by scheme rules
pub answers_by_scheme : answers (pairs_rules uri_tests Scheme) (codes "a:") (codes "http://h:80\t//i" ∷ []) ≡ codes "ok http://i/\n" ∷ []
unfolding on_literals pairs_answer
answers_by_scheme = refl

-- each text mapped to a URI (RFC 3987 section 3.1)
pub answers_to_uri : answers (pairs_to_uri_rules iri_tests Default) (codes "a:") (encode_utf8_all (codes "http://example.org/\té") ∷ codes "x\ty" ∷ [])
    ≡ codes "ok http://example.org/%C3%A9\n" ∷ codes "base expected an absolute IRI but got a relative IRI\n" ∷ []
unfolding on_literals is_ucschar pair_uri_answer uri_answer
answers_to_uri = refl

-- the first line is answered too, and a page that is refused doesn't end the run
pub whole_input : ending (pairs_rules uri_tests Default) (codes "%\tg\na:b\tc")
    ≡ record { status = 1; output = codes "base expected an absolute IRI but got a relative IRI\nok a:c\n" }
unfolding on_literals pairs_answer refusal
whole_input = refl

pub empty_input : ending (pairs_rules uri_tests Default) [] ≡ record { status = 0; output = [] }
unfolding on_literals refusal
empty_input = refl
