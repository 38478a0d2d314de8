use Rattle.iri_link.proofs.Common.{ℕ, List, true, length, Utf8, shadow}
use Rattle.iri_link.specs.inside.PlainParams.{ArePlain}
use Rattle.iri_link.proofs.plain.past_params.Given as goal

-- what was passed so far
abbrev pub invariant-params : goal.invariant-params
invariant-params l = record {
  utf8 : shadow (Utf8 l.rest);
  prefix : List ℕ;
  plain : ArePlain true l.s prefix l.rest;
}

abbrev pub decreases-params : goal.decreases-params
decreases-params l = length l.rest
