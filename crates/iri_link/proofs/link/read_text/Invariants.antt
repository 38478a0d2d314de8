use Rattle.iri_link.proofs.Common.{length, map, Utf8, shadow, base_text, link_of}
use Rattle.iri_link.proofs.LinkLemmas.{Kept}
use Rattle.iri_link.proofs.link.read_text.Given as goal

-- what is kept so far
abbrev pub invariant-pieces : goal.invariant-pieces
invariant-pieces g l = record {
  utf8 : shadow (Utf8 l.rest);
  read : Kept g.S.Spec.tests l.mode (base_text l.resolver) l.text l.inside l.rest (map link_of l.links.items);
}

abbrev pub decreases-pieces : goal.decreases-pieces
decreases-pieces g l = length l.rest
