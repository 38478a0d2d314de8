use Rattle.iri_link.proofs.Common.{◌≡◌, length, Utf8, shadow, fault_from, before_link}
use Rattle.iri_link.specs.inside.Faults.{phase_at}
use Rattle.iri_link.proofs.fault.check_text.Given as goal

-- nothing so far is wrong
abbrev pub invariant-pieces : goal.invariant-pieces
invariant-pieces g l = record {
  utf8 : shadow (Utf8 l.rest);
  same : fault_from g.S.Spec.tests before_link l.text ≡ fault_from g.S.Spec.tests (phase_at l.inside) l.rest;
}

abbrev pub decreases-pieces : goal.decreases-pieces
decreases-pieces g l = length l.rest
