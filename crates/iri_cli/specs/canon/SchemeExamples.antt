-- Words of commands by scheme rules, and answers of `canon` to some lines (RFC 3986 section 6.2.3).
use Rattle.std.specs.Prelude.{◌≡◌, ℕ, List, [], ◌∷◌, codes, refl}
use Rattle.iri_grammar.specs.Classes.{uri_tests}
use Rattle.iri_percent.specs.declared.canon_mode.CanonMode.TheVariants.{Default, Scheme}
use Rattle.iri_docs.specs.OnLiterals.{on_literals}
use Rattle.iri_robots.specs.FileLines.{is_token}
use denote.Ref.{Bor}
use Rattle.std.proofs.Common.{ap}
use Rattle.iri_cli.specs.run.Ending.{answers}
use Rattle.iri_cli.specs.run.Words.{IsCommand, rules_of}
use Rattle.iri_cli.specs.declared.run.words.Command.TheVariants.{Lines}
use Rattle.iri_cli.specs.declared.run.words.Grammar.TheVariants.{Uri}
use Rattle.iri_cli.specs.declared.run.words.LineCommand.TheVariants.{Canon, Robots}

pub words_by_scheme : IsCommand (codes "canon" ∷ codes "uri" ∷ codes "scheme" ∷ []) (Lines Canon Scheme Uri)
words_by_scheme = (refl, tt)

pub words_by_default : IsCommand (codes "canon" ∷ codes "uri" ∷ []) (Lines Canon Default Uri)
words_by_default = (refl, tt)

-- the mode's word comes after the token
pub token_before_mode : (token : Bor (List ℕ)) → token.now ≡ codes "scheme"
    → IsCommand (codes "robots" ∷ codes "uri" ∷ token.now ∷ codes "scheme" ∷ []) (Lines (Robots token) Scheme Uri)
token_before_mode token is = (refl, ap is_token is)

-- two links with one text, another port, a port that isn't the same text, a scheme without a default port, no authority, and a fault
pub answers_to_some_lines : answers (rules_of Canon uri_tests Scheme) (codes "HTTP://H:80")
    (codes "" ∷ codes "http://h" ∷ codes "https://h:80" ∷ codes "//h:080/" ∷ codes "x://h:80" ∷ codes "http:" ∷ codes "#%" ∷ [])
    ≡ codes "ok http://h/\n" ∷ codes "ok http://h/\n" ∷ codes "ok https://h:80/\n" ∷ codes "ok http://h:080/\n" ∷ codes "ok x://h:80\n"
    ∷ codes "ok http:\n" ∷ codes "bad invalid fragment\n" ∷ []
unfolding on_literals
answers_to_some_lines = refl
