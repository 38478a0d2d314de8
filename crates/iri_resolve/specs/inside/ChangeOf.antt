-- The changes of triplets, by name.
use Rattle.std.specs.Prelude.{ℕ, List, Option}
use Rattle.iri_grammar.specs.Classes.{Tests}
use Rattle.iri_resolve.specs.Changes.{with_capital_digit, with_decoded}
use Rattle.iri_resolve.specs.declared.change.Change.{Change}
use Rattle.iri_resolve.specs.declared.change.Change.TheVariants.{CapitalDigit, Decoded}

abbrev pub change_of : Tests → Change → ℕ → List ℕ → Option (List ℕ)
change_of s CapitalDigit i t = with_capital_digit i t
change_of s Decoded i t = with_decoded s i t
