-- Templates and the canonical texts of their expansions, computed.
use Rattle.std.specs.Prelude.{◌≡◌, ℕ, List, [], ◌∷◌, codes, Ok, Err, refl}
use Rattle.iri_grammar.specs.Classes.{uri_tests}
use Rattle.iri_grammar.specs.declared.error.ErrorKind.TheVariants.{InvalidPath}
use Rattle.iri_percent.specs.declared.canon_mode.CanonMode.TheVariants.{Default, Scheme}
use Rattle.iri_template.specs.ShownValues.{ShownValue, string, list}
use Rattle.iri_template.specs.declared.error.ErrorKind.TheVariants.{ExpressionNotClosed, UnexpectedValueType}
use Rattle.iri_docs.specs.Documents.{value_by_name}
use Rattle.iri_docs.specs.Expanded.{expanded}
use Rattle.iri_docs.specs.OnLiterals.{on_literals}
use Rattle.iri_docs.specs.declared.expand_error.DocExpandError.TheVariants.{Template, Invalid}

-- `é` has two bytes
abbrev values : List ℕ → ShownValue
values = value_by_name ((codes "l", list (codes "a" ∷ codes "b" ∷ [])) ∷ (codes "n", string (codes "7"))
    ∷ (codes "q", string (195 ∷ 169 ∷ [])) ∷ [])

a_query : expanded uri_tests Default (codes "http://a/b/") values (codes "x{?q,n,l*}") ≡ Ok (codes "http://a/b/x?q=%C3%A9&n=7&l=a&l=b")
unfolding on_literals
a_query = refl

by_scheme : expanded uri_tests Scheme (codes "http://a/b/") values (codes "//h:80{?n}") ≡ Ok (codes "http://h/?n=7")
unfolding on_literals
by_scheme = refl

open_expression : expanded uri_tests Default (codes "http://a/") values (codes "{v")
    ≡ Err (Template (record { kind = ExpressionNotClosed; location = 0 }))
unfolding on_literals
open_expression = refl

a_length_for_a_list : expanded uri_tests Default (codes "http://a/") values (codes "{l:3}")
    ≡ Err (Template (record { kind = UnexpectedValueType; location = 1 }))
unfolding on_literals
a_length_for_a_list = refl

no_reference : expanded uri_tests Default (codes "http://a/") values (codes "1:{n}") ≡ Err (Invalid (record { kind = InvalidPath }))
unfolding on_literals
no_reference = refl
