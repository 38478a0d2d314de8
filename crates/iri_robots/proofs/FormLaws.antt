-- The compared form on both sides of a question mark.
use Rattle.iri_robots.proofs.Common.{◌≡◌, ℕ, List, ◌∷◌, ◌++◌, refl, ◌∙◌, ap, compared}
use Rattle.iri_grammar.specs.Classes.{uri_tests}
use Rattle.iri_percent.specs.Mapping.{mapped}
use Rattle.iri_percent.specs.Triplets.{normal, as_it_is}
use Rattle.iri_percent.proofs.mapping.Texts.{mapped-append, mapped-low}
use Rattle.iri_percent.proofs.units.AtDelimiters.{normal_delimiter}

pub compared_delimiter : (p q : List ℕ) → compared (p ++ 63 ∷ q) ≡ compared p ++ 63 ∷ compared q
unfolding compared
compared_delimiter p q =
    ap (normal uri_tests as_it_is) (mapped-append p (63 ∷ q) ∙ ap (λ z. mapped p ++ z) (mapped-low 63 q refl))
    ∙ normal_delimiter uri_tests as_it_is 63 (mapped p) (mapped q) (record { percent = refl; digit = refl })
