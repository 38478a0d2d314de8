use Rattle.iri_grammar.proofs.Common.{◌≡◌, length, has_slash_and_dot}
use Rattle.iri_grammar.proofs.dots.has_dots_in_short.Given as goal

-- what is left decides as the whole does
abbrev pub invariant-places : goal.invariant-places
invariant-places l = has_slash_and_dot l.rest ≡ has_slash_and_dot l.path

abbrev pub decreases-places : goal.decreases-places
decreases-places l = length l.rest
