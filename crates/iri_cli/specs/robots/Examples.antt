-- The command `robots`, worked on the lines of small inputs.
use Rattle.std.specs.Prelude.{◌≡◌, true, false, [], ◌∷◌, codes, map, refl}
use Rattle.iri_grammar.specs.Classes.{uri_tests}
use Rattle.iri_robots.specs.Compared.{compared}
use Rattle.iri_robots.specs.Decided.{special_of, piece_of, pieces, some_suffix, begins, fills, is_match, matching, most_bytes, longest_allow}
use Rattle.iri_robots.specs.Decided.{is_allowed}
use Rattle.iri_percent.specs.declared.canon_mode.CanonMode.TheVariants.{Default, Scheme}
use Rattle.iri_docs.specs.OnLiterals.{on_literals}
use Rattle.iri_cli.specs.run.Ending.{answers}
use Rattle.iri_cli.specs.robots.Answers.{same_site}
use Rattle.iri_cli.specs.robots.Lines.{line_of, records_after}
use Rattle.iri_cli.specs.robots.Rules.{robots_rules}

-- a tie, an escaped star, an empty path, a fault, another site; a line that feeds the robots file has no answer
pub answers_by_rules : answers (robots_rules uri_tests Default (codes "examplebot")) (codes "http://a")
    (codes "r user-agent: *" ∷ codes "r disallow: /x" ∷ codes "r allow: /x" ∷ codes "r disallow: /a-%2a # star" ∷ codes "u x" ∷ codes "u a-*"
    ∷ codes "u " ∷ codes "u %4" ∷ codes "u http://b/" ∷ [])
    ≡ [] ∷ [] ∷ [] ∷ [] ∷ codes "allow http://a/x\n" ∷ codes "disallow http://a/a-*\n" ∷ codes "allow http://a\n"
    ∷ codes "bad invalid path\n" ∷ codes "other http://b/\n" ∷ []
unfolding on_literals line_of records_after compared special_of piece_of pieces some_suffix begins fills is_match matching most_bytes longest_allow is_allowed same_site
answers_by_rules = refl

-- by scheme rules a default port is the same site
pub answers_by_scheme : answers (robots_rules uri_tests Scheme (codes "examplebot")) (codes "HTTPS://WWW.EXAMPLE.com")
    (codes "r user-agent: *" ∷ codes "r disallow: /x" ∷ codes "u HTTPS://www.example.com:443/x" ∷ codes "u http://www.example.com:443/x" ∷ [])
    ≡ [] ∷ [] ∷ codes "disallow https://www.example.com/x\n" ∷ codes "other http://www.example.com:443/x\n" ∷ []
unfolding on_literals line_of records_after compared special_of piece_of pieces some_suffix begins fills is_match matching most_bytes longest_allow is_allowed same_site
answers_by_scheme = refl

-- which lines take memory: one that has a record, and one that asks of a reference without a fault
pub memory_at_some_lines : map ((robots_rules uri_tests Default (codes "examplebot")).wants_memory (codes "http://a") [])
    (codes "r allow: /x" ∷ codes "r # no record" ∷ codes "u x" ∷ codes "u %4" ∷ codes "q" ∷ [])
    ≡ true ∷ false ∷ true ∷ false ∷ false ∷ []
unfolding on_literals line_of
memory_at_some_lines = refl
