-- The command `docs`, worked on the lines of small inputs.
use Rattle.std.specs.Prelude.{◌≡◌, [], ◌∷◌, ◌++◌, codes, refl}
use Rattle.iri_grammar.specs.Classes.{uri_tests}
use Rattle.iri_percent.specs.declared.canon_mode.CanonMode.TheVariants.{Default, Scheme}
use Rattle.iri_docs.specs.OnLiterals.{on_literals}
use Rattle.iri_cli.specs.docs.Answers.{docs_answer}
use Rattle.iri_cli.specs.expand.Answers.{template_answer}
use Rattle.iri_cli.specs.run.Ending.{answers}
use Rattle.iri_cli.specs.docs.Rules.{docs_rules}

-- `é` has two bytes
pub a_query : answers (docs_rules uri_tests Default) (codes "http://a/b/")
    ((codes "{\"template\":\"x{?q,n,l*}\",\"vars\":{\"q\":\"" ++ 195 ∷ 169 ∷ codes "\",\"n\":7,\"l\":[\"a\",\"b\"]}}") ∷ [])
    ≡ codes "ok http://a/b/x?q=%C3%A9&n=7&l=a&l=b\n" ∷ []
unfolding on_literals docs_answer template_answer
a_query = refl

-- variables of an earlier line have no value
pub own_variables : answers (docs_rules uri_tests Default) (codes "http://a/")
    (codes "{\"template\":\"{v}\",\"vars\":{\"v\":1}}" ∷ codes "{\"template\":\"{v}\"}" ∷ [])
    ≡ codes "ok http://a/1\n" ∷ codes "ok http://a/\n" ∷ []
unfolding on_literals docs_answer template_answer
own_variables = refl

-- by scheme rules
pub expanded_by_scheme : answers (docs_rules uri_tests Scheme) (codes "http://a/") (codes "{\"template\":\"//h:80{?v}\",\"vars\":{\"v\":1}}" ∷ [])
    ≡ codes "ok http://h/?v=1\n" ∷ []
unfolding on_literals docs_answer template_answer
expanded_by_scheme = refl

pub refusals : answers (docs_rules uri_tests Default) (codes "http://a/")
    (codes "{" ∷ codes "[1]" ∷ codes "{\"template\":\"{v}\",\"vars\":{\"v\":true}}" ∷ codes "{\"template\":\"\",\"vars\":{\"a\":1.5}}"
    ∷ codes "{\"template\":\"{v\"}" ∷ codes "{\"template\":\"1:{v}\"}" ∷ [])
    ≡ codes "bad json\n" ∷ codes "bad document\n" ∷ codes "bad variable truth value\n" ∷ codes "bad variable float\n"
    ∷ codes "template expression not closed at 0\n" ∷ codes "bad invalid path\n" ∷ []
unfolding on_literals docs_answer template_answer
refusals = refl
