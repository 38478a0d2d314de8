-- The command `links`, worked on the lines of small inputs.
use Rattle.std.specs.Prelude.{◌≡◌, ℕ, List, [], ◌∷◌, codes, refl}
use Rattle.iri_grammar.specs.Classes.{uri_tests}
use Rattle.iri_link.specs.Fault.{fault_from, closes_from}
use Rattle.iri_link.specs.LaxReadings.{lax_reading}
use Rattle.iri_link.specs.Readings.{reading}
use Rattle.iri_percent.specs.declared.canon_mode.CanonMode.TheVariants.{Default, Scheme}
use Rattle.iri_docs.specs.OnLiterals.{on_literals}
use Rattle.iri_cli.specs.run.Ending.{answers}
use Rattle.iri_cli.specs.run.Words.{IsCommand}
use Rattle.iri_cli.specs.declared.run.words.Command.TheVariants.{Lines}
use Rattle.iri_cli.specs.declared.run.words.Grammar.TheVariants.{Uri}
use Rattle.iri_cli.specs.declared.run.words.LineCommand.TheVariants.{LaxLinks}
use Rattle.iri_cli.specs.links.Answers.{lax_answer, links_answer}
use Rattle.iri_cli.specs.links.Rules.{lax_rules, links_rules}

-- links of an API with pages, a name in capitals, an escaped delimiter, no link; and a fault of each kind but that of UTF-8
pub answers_to_some_lines : answers (links_rules uri_tests Default) (codes "https://api.example.com/items?page=2")
    (codes "<https://api.example.com/items?page=3>; rel=\"next\", <?page=1>; rel=prev" ∷ codes "</%7Eu/../x>;REL=up;title=\"a\\\"b\";" ∷ []
    ∷ codes "a" ∷ codes "<a" ∷ codes "<%4>" ∷ codes "<a> b" ∷ codes "<a>;r=" ∷ codes "<a>;r=\"x" ∷ [])
    ≡ codes "ok <https://api.example.com/items?page=3>; rel=\"next\", <https://api.example.com/items?page=1>; rel=\"prev\"\n"
    ∷ codes "ok <https://api.example.com/x>; rel=\"up\"; title=\"a\\\"b\"\n" ∷ codes "ok \n" ∷ codes "bad expected target at 0\n"
    ∷ codes "bad unclosed target at 0\n" ∷ codes "bad target invalid path at 1\n" ∷ codes "bad expected parameter at 4\n"
    ∷ codes "bad parameter value at 6\n" ∷ codes "bad unclosed string at 6\n" ∷ []
unfolding on_literals links_answer fault_from closes_from reading
answers_to_some_lines = refl

-- by scheme rules
pub answer_by_scheme : answers (links_rules uri_tests Scheme) (codes "http://h:80") (codes "<>; rel=self, <http://h:80/a>" ∷ [])
    ≡ codes "ok <http://h/>; rel=\"self\", <http://h/a>\n" ∷ []
unfolding on_literals links_answer fault_from closes_from reading
answer_by_scheme = refl

-- read laxly (RFC 8288 appendix B.2)
pub words_lax : IsCommand (codes "links" ∷ codes "uri" ∷ codes "lax" ∷ []) (Lines LaxLinks Default Uri)
words_lax = (refl, tt)

-- a media type that isn't quoted
abbrev preload : List ℕ
preload = codes "</a>; rel=preload; type=font/woff2"

-- it is refused, and read laxly it is a value
pub answers_lax :
    (answers (links_rules uri_tests Default) (codes "https://h/") (preload ∷ []) ≡ codes "bad expected parameter at 28\n" ∷ [])
    × (answers (lax_rules uri_tests Default) (codes "https://h/") (preload ∷ [])
    ≡ codes "ok <https://h/a>; rel=\"preload\"; type=\"font/woff2\"\n" ∷ [])
unfolding on_literals links_answer lax_answer fault_from closes_from reading lax_reading
answers_lax = (refl, refl)
